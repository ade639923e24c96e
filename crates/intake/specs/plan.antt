pub mod PlanTests
