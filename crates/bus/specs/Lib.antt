pub mod Images
pub mod Plans
pub mod Chains
pub mod Returns
pub mod CallLists
pub mod InC
