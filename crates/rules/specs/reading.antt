pub mod RuleBodies
