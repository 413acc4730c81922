-- What a reader must believe: document 02's way of counting, and the statement of the theorem.
pub mod Words
