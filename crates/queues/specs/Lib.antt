pub mod Queues
pub mod Reports
