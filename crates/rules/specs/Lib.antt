pub mod reading
pub mod rules
pub mod first_nodes
