pub mod Briefs
