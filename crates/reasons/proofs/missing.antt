pub mod Asking
pub mod Seeking
