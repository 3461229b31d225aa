-- The theorems about networks, one a file, and the laws that they rest on.
--     SoundTest                    soundness as a fact and as a test
--     Passing, SameAnswer          demand 2, of the judge; lists that agree
--     SameCut                      sheets that agree
--     Refusals                     17, 18 and 19 with their places
--     PaperCut, FragmentSound, OneFragment     the fragment: the paper's, sound, and the network itself where nothing is cut
--     Covering                     the fragments together: they cover the network, and across a cut one promises what the other assumes
--     FragmentsAndWhole, Recutting     the two halves of demand 3
--     Reunion                      the fragments joined again, and the whole that they give cut again
--     Counting                     the fragments' judged counts
--     Silence                      what a pass carried
--     Trails                       where a route started
--     TwiceRefused                 fragments with no own box in common
--     Joining, JoinPasses, JoinRefusals     two networks joined: what is given, which lists pass in it, and 21 to 24 with their places
--     PaperTheorems                what document 000 proves
--     Laws                         all else
pub mod SoundTest
pub mod Passing
pub mod SameAnswer
pub mod SameCut
pub mod Refusals
pub mod PaperCut
pub mod Covering
pub mod FragmentSound
pub mod OneFragment
pub mod FragmentsAndWhole
pub mod Counting
pub mod Silence
pub mod Trails
pub mod Recutting
pub mod Reunion
pub mod TwiceRefused
pub mod Joining
pub mod JoinPasses
pub mod JoinRefusals
pub mod PaperTheorems
pub mod BestRoute
pub mod Laws
