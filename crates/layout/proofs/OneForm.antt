-- The form of a record.
--     form_known, form_usable      it is a known form, which the code can use
--     form_is                      a record with a known form's version byte has that form
--     version_test, version_byte   the version byte, as a test and as a fact
--     named_form, unnamed          what the version byte tells
--     one_form                     two records that are taken together have one form
use mathlib.Core.Path.{◌≡◌, refl, sym, subst, ◌∙◌}
use mathlib.Core.Bool.{Bool, true, false, cond}
use mathlib.Core.List.{List}
use Prim.Native.Nat.{ℕ}
use native.Mathlib.Omega.{arith}
use lib.ListN.{get_or}
use borrow.Author.Tests.{eq-eqb, eqb-true}
use Rattle.layout.specs.Form.{version1, form_of, Known, Usable, formed, versioned}
use Rattle.layout.specs.declared.Form.{Form}
use Rattle.std.proofs.Common.{Option, Some, None}

pub form_known : (b : List ℕ) → Known (form_of b)
unfolding form_of Known
form_known b = refl

pub first_usable : Usable version1
first_usable = record { byte = omega arith; wide = omega arith; narrow = omega arith; few = omega arith }

pub known_usable : (f : Form) → Known f → Usable f
unfolding Known
known_usable f e = subst Usable (sym e) first_usable

pub form_usable : (b : List ℕ) → Usable (form_of b)
form_usable b = known_usable (form_of b) (form_known b)

-- a record of a known form, by its version byte
pub form_is : (f : Form) (b : List ℕ) → Known f → versioned f b ≡ true → form_of b ≡ f
unfolding form_of Known
form_is f b k v = sym k

-- the version byte, as a test and as a fact
pub version_test : (f : Form) (b : List ℕ) → get_or b 4 0 ≡ f.version → versioned f b ≡ true
unfolding versioned
version_test f b e = eq-eqb (get_or b 4 0) f.version e

pub version_byte : (f : Form) (b : List ℕ) → versioned f b ≡ true → get_or b 4 0 ≡ f.version
unfolding versioned
version_byte f b e = eqb-true (get_or b 4 0) f.version e

-- what the version byte tells
module _ (b : List ℕ) where
  pub named_form : (f : Form) → Some f ≡ formed b → (f ≡ form_of b) × (versioned (form_of b) b ≡ true)
  unfolding formed
  named_form f e = go (versioned (form_of b) b) refl e
    where
      go : (t : Bool) → versioned (form_of b) b ≡ t → Some f ≡ cond t (Some (form_of b)) None → (f ≡ form_of b) × (versioned (form_of b) b ≡ true)
      go true q h = (cc, q)
      go false q h = absurd (let z : ◌≡◌ {A = ℕ} 0 1 = cc in omega arith)

  -- a form that the code was told can be used
  pub told_usable : (g : Option Form) (f : Form) → g ≡ formed b → g ≡ Some f → Usable f
  told_usable g f k e = rw (named_form f (sym e ∙ k)).0 (form_usable b)

  pub unnamed : None ≡ formed b → versioned (form_of b) b ≡ false
  unfolding formed
  unnamed e = go (versioned (form_of b) b) refl e
    where
      go : (t : Bool) → versioned (form_of b) b ≡ t → None ≡ cond t (Some (form_of b)) None → versioned (form_of b) b ≡ false
      go true q h = absurd (let z : ◌≡◌ {A = ℕ} 0 1 = cc in omega arith)
      go false q h = q

-- two records that are taken together have one form
pub one_form : (a b : List ℕ) → form_of a ≡ form_of b
unfolding form_of
one_form a b = refl
