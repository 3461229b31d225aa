-- Merging: the laws of the merge, over any rows, and the nodes and edges of records as its rows.
pub mod MergeLaws
pub mod NodeLaws
pub mod EdgeLaws
