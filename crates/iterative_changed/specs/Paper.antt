-- What a reader must believe: document 02's definition of the places that count as changed.
pub mod Changed
