-- Laws about the definitions of specs/, in the order in which they rest on each other.
--     Counts                      how many elements meet a test
--     Boxes, Wires, Entries       boxes by kind and id; the order of wires; what a sheet or a list says of a box
--     Named, Lowest              the box that an answer names; answers and refusals taken apart
--     Order                       the order that the laws of choice make
--     Pieces, Formed, Soundness   what a fragment has, what of it every cut keeps, and that it is sound
--     Cutting, Refused            the cutter's answers; what a refusal tells
--     Recut                       one cut upon another
--     Promising, Uncut            a network with promises added where cut wires leave; one that nothing cuts
--     Fitting, Reunion            two networks that fit are joined; the fragments of one cut, joined
--     Solutions                   solutions in a network and in its fragments
--     Judging, Agreeing           the judge's answers; two lists that agree
--     Silence                     a list that holds no route anywhere
--     Senders, Ranks              the box that a trail goes back to, and those behind it; how many cost no more than a box
--     Mapping, Whole              what a list maps a fragment's boxes to; fragments and whole
--     Points, Together            the paper's definition of a fragment, id by id; the fragments of one cut together
--     Joins, JointWires           the joint network of two
--     JoinRows, Fitted            the rows of joining's table; two networks that are joined
--     JointSolutions              solutions and passing lists of the joint network
pub mod Counts
pub mod Boxes
pub mod Wires
pub mod Entries
pub mod Named
pub mod Lowest
pub mod Order
pub mod Pieces
pub mod Formed
pub mod Soundness
pub mod Cutting
pub mod Refused
pub mod Recut
pub mod Promising
pub mod Uncut
pub mod Fitting
pub mod Reunion
pub mod Solutions
pub mod Judging
pub mod Agreeing
pub mod Silence
pub mod Senders
pub mod Ranks
pub mod Mapping
pub mod Whole
pub mod Points
pub mod Together
pub mod Joins
pub mod JointWires
pub mod JoinRows
pub mod Fitted
pub mod JointSolutions
