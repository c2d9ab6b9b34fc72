pub mod Chroma
