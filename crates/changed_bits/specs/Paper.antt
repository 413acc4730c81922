-- What a reader must believe: what the count of changed bits says as a call.
pub mod Call
