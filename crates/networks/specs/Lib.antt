-- Open networks over any kind of route: what a solution, a finding and a fragment are. A reader of documents 000 and 01 can hold
-- both beside these files, in this order. The theorems about them are in proofs/.
pub mod Algebra
pub mod Network
pub mod Sound
pub mod Sheets
pub mod Lowest
pub mod Solution
pub mod Judge
pub mod Cut
pub mod Join
pub mod Reunion
pub mod Paper
pub mod Joint
pub mod Covering
pub mod Counts
pub mod Silence
pub mod Trail
