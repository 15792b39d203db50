pub mod FromFn
pub mod Sums
pub mod Members
pub mod Shares
pub mod Marks
pub mod Weighed
pub mod SettlementPoints
