-- The numbers given back (document 01; 21 to 24 document 02): a number for each class of refusal, and what a refusal and a check say.
use Rattle.std.specs.Prelude.{ℕ, Result, Ok, Err}
use Rattle.lists.specs.Answer.{Answer, given, refused}
use Rattle.layout.specs.declared.Class.{Class}
use Rattle.layout.specs.declared.Class.TheVariants.{Short, Version, Counts, Length, Behind, IllPolicy, IllNode, NoOwn, IllEdge, NoEdgeOut, EntriesShort, EntriesVersion, EntriesCount, EntriesLength, EntriesBehind, IllEntry, NoEntry, NoSuchOwn, NoteDiffers, NoRoom, OwnedByBoth, Unmatched, PoliciesDiffer, TooMany}
use Rattle.layout.specs.declared.Form.{Form}
use Rattle.layout.specs.declared.Refusal.{Refusal}

-- the document's number of a class
abbrev pub number_of : Class → ℕ
number_of Short = 1
number_of Version = 2
number_of Counts = 3
number_of Length = 4
number_of Behind = 5
number_of IllPolicy = 6
number_of IllNode = 7
number_of NoOwn = 8
number_of IllEdge = 9
number_of NoEdgeOut = 10
number_of EntriesShort = 11
number_of EntriesVersion = 12
number_of EntriesCount = 13
number_of EntriesLength = 14
number_of EntriesBehind = 15
number_of IllEntry = 16
number_of NoEntry = 17
number_of NoSuchOwn = 18
number_of NoteDiffers = 19
number_of NoRoom = 20
number_of OwnedByBoth = 21
number_of Unmatched = 22
number_of PoliciesDiffer = 23
number_of TooMany = 24

-- what a refusal says, of whatever was asked
abbrev pub refusing : {A : Type 0} → Refusal → Answer A
refusing r = refused (number_of r.class) r.place

-- what a check of a record says: its form, or a refusal
abbrev pub check_answer : Result Form Refusal → Answer Form
check_answer (Ok f) = given f
check_answer (Err r) = refusing r

-- the number of an answer: 0 where nothing is refused
abbrev pub number_in : {A : Type 0} → Answer A → ℕ
number_in (given x) = 0
number_in (refused number place) = number
