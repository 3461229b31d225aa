-- The proofs of the statements in specs/, under the same names. Left has what they share about records that are left in buffers, Cuts about
-- cuts, Joined about joins and Laying about outcomes; Contracts that a suite does what the code's contracts ask, and SomeSuite that there is one.
pub mod Left
pub mod Cuts
pub mod Demand1
pub mod Demand2
pub mod JudgedCount
pub mod Demand3
pub mod Joined
pub mod Reunion
pub mod SomePlan
pub mod Joins
pub mod Fragments
pub mod Silence
pub mod SameAnswer
pub mod Laying
pub mod Answers
pub mod JoinAnswers
pub mod Policies
pub mod Trails
pub mod Determined
pub mod Programs
pub mod Contracts
pub mod SomeSuite
