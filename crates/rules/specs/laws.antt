-- What the laws of the rules say. Each statement is a clause of a public function in src/, and is proved in proofs/.
pub mod Rounding
pub mod Openings
pub mod Arrangements
pub mod Orders
pub mod Weights
pub mod Placing
pub mod Rounds
pub mod Fitting
pub mod Soundness
pub mod Searches
pub mod Candidates
pub mod Boards
pub mod Withdrawals
pub mod Sites
pub mod Stations
