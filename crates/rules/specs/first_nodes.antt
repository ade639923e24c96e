pub mod FirstNodes
