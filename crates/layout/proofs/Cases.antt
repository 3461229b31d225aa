-- A class is known by its number, a refusal by number and place, and what a check finds by its answer: any two with the same are the same.
use mathlib.Core.Path.{◌≡◌, refl, sym, ap, ◌∙◌}
use mathlib.Core.List.{[], ◌∷◌}
use Prim.Native.Nat.{ℕ}
use lib.Dec.{eqb}
use Rattle.lists.specs.Answer.{Answer, given, refused}
use Rattle.lists.specs.Test.{first_applying}
use Rattle.layout.specs.Refusals.{number_of, check_answer}
use Rattle.std.proofs.Common.{Result, Ok, Err}
use Rattle.layout.specs.declared.Class.{Class}
use Rattle.layout.specs.declared.Class.TheVariants.{Short, Version, Counts, Length, Behind, IllPolicy, IllNode, NoOwn, IllEdge, NoEdgeOut, EntriesShort, EntriesVersion, EntriesCount, EntriesLength, EntriesBehind, IllEntry, NoEntry, NoSuchOwn, NoteDiffers, NoRoom, OwnedByBoth, Unmatched, PoliciesDiffer, TooMany}
use Rattle.layout.specs.declared.Form.{Form}
use Rattle.layout.specs.declared.Refusal.{Refusal}

-- the class with a number
unfoldable pub class_of : ℕ → Class
class_of n =
    first_applying
    ((eqb n 1, Short) ∷
    (eqb n 2, Version) ∷
    (eqb n 3, Counts) ∷
    (eqb n 4, Length) ∷
    (eqb n 5, Behind) ∷
    (eqb n 6, IllPolicy) ∷
    (eqb n 7, IllNode) ∷
    (eqb n 8, NoOwn) ∷
    (eqb n 9, IllEdge) ∷
    (eqb n 10, NoEdgeOut) ∷
    (eqb n 11, EntriesShort) ∷
    (eqb n 12, EntriesVersion) ∷
    (eqb n 13, EntriesCount) ∷
    (eqb n 14, EntriesLength) ∷
    (eqb n 15, EntriesBehind) ∷
    (eqb n 16, IllEntry) ∷
    (eqb n 17, NoEntry) ∷
    (eqb n 18, NoSuchOwn) ∷
    (eqb n 19, NoteDiffers) ∷
    (eqb n 20, NoRoom) ∷
    (eqb n 21, OwnedByBoth) ∷
    (eqb n 22, Unmatched) ∷
    (eqb n 23, PoliciesDiffer) ∷
    [])
    TooMany

pub number_class : (c : Class) → class_of (number_of c) ≡ c
unfolding class_of
number_class Short = refl
number_class Version = refl
number_class Counts = refl
number_class Length = refl
number_class Behind = refl
number_class IllPolicy = refl
number_class IllNode = refl
number_class NoOwn = refl
number_class IllEdge = refl
number_class NoEdgeOut = refl
number_class EntriesShort = refl
number_class EntriesVersion = refl
number_class EntriesCount = refl
number_class EntriesLength = refl
number_class EntriesBehind = refl
number_class IllEntry = refl
number_class NoEntry = refl
number_class NoSuchOwn = refl
number_class NoteDiffers = refl
number_class NoRoom = refl
number_class OwnedByBoth = refl
number_class Unmatched = refl
number_class PoliciesDiffer = refl
number_class TooMany = refl

-- the refusal with a number and a place
abbrev pub refusal_of : ℕ → ℕ → Refusal
refusal_of number place = record { class = class_of number; place = place }

pub numbers_refusal : (r : Refusal) → refusal_of (number_of r.class) r.place ≡ r
numbers_refusal r = λ i. record { class = number_class r.class i; place = r.place }

-- what a check with this answer finds
abbrev pub check_of : Answer Form → Result Form Refusal
check_of (given f) = Ok f
check_of (refused number place) = Err (refusal_of number place)

pub answer_check : (c : Result Form Refusal) → check_of (check_answer c) ≡ c
answer_check (Ok f) = refl
answer_check (Err r) = ap Err (numbers_refusal r)

-- a contract that gives the answer allows one check
pub one_check : (a : Answer Form) (c d : Result Form Refusal) → check_answer c ≡ a → check_answer d ≡ a → c ≡ d
one_check a c d p q = sym (answer_check c) ∙ ap check_of (p ∙ sym q) ∙ answer_check d
