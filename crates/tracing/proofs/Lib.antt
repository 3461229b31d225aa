-- Whom a box has its route from, as the code finds it.
pub mod SenderLaws
-- The theorems about trails, on bytes; the walk; how long its lines are.
pub mod TrailLaws
pub mod WalkLaws
pub mod Lengths
-- The entry points, and what the program prints.
pub mod EntryLaws
