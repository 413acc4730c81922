pub mod AllDecided
