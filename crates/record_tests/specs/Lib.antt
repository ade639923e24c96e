pub mod rule_record
pub mod type_record
