pub mod WrittenRoom
