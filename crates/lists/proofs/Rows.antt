-- Rows of one width, one after another.
--     get_d_rows, get_elem_rows, rows_next     one of them, and the rows that a loop has still to read
--     rows_back                              values written one after another are read back
--     laid_map                               images laid down
use mathlib.Core.Path.{◌≡◌, refl, sym, ap, ap₂, ◌∙◌}
use mathlib.Core.Option.{some}
use mathlib.Core.List.{List, [], ◌∷◌, ◌++◌, map, append_assoc}
use Prim.Native.Nat.{ℕ, zero, suc, ◌+◌, ◌*◌, ◌-◌, ◌≤◌, ◌<◌}
use native.Mathlib.Omega.{arith}
use lib.ListN.{length, get_or, get_elem?, length-append}
use Rattle.lists.specs.All.{All}
use Rattle.lists.specs.Stride.{at}
use Rattle.lists.proofs.Stride.{at_zero, at_next, at_shift}
use Rattle.lists.specs.Rows.{laid_rows, rows}

module _ {A : Type 0} (value : ℕ → A) (width : ℕ) where
  pub length_rows : (offset n : ℕ) → length (rows value width offset n) ≡ n
  length_rows offset zero = refl
  length_rows offset (suc n) = ap suc (length_rows (offset + width) n)

  pub get_d_rows : (offset n i : ℕ) (d : A) → i < n → get_or (rows value width offset n) i d ≡ value (at offset width i)
  get_d_rows offset zero i d h = absurd (omega arith)
  get_d_rows offset (suc n) zero d h = ap value (sym (at_zero offset width))
  get_d_rows offset (suc n) (suc i) d h = get_d_rows (offset + width) n i d (omega arith) ∙ ap value (sym (at_shift offset width i))

  pub get_elem_rows : (offset n i : ℕ) → i < n → get_elem? (rows value width offset n) i ≡ some (value (at offset width i))
  get_elem_rows offset zero i h = absurd (omega arith)
  get_elem_rows offset (suc n) zero h = ap (λ (o : ℕ). some (value o)) (sym (at_zero offset width))
  get_elem_rows offset (suc n) (suc i) h = get_elem_rows (offset + width) n i (omega arith) ∙ ap (λ (o : ℕ). some (value o)) (sym (at_shift offset width i))

  -- the rows from the i-th on: its value, then those from the next on
  pub rows_next : (offset n i : ℕ) → i < n → rows value width (at offset width i) (n - i) ≡ value (at offset width i) ∷ rows value width (at offset width (i + 1)) (n - (i + 1))
  rows_next offset n i h = go (n - i) (omega arith)
    where
      go : (m : ℕ) → m ≡ suc (n - (i + 1)) → rows value width (at offset width i) m ≡ value (at offset width i) ∷ rows value width (at offset width (i + 1)) (n - (i + 1))
      go m e = rw e (ap (λ (o : ℕ). value (at offset width i) ∷ rows value width o (n - (i + 1))) (sym (at_next offset width i)))

  pub rows_end : (offset n i : ℕ) → n ≤ i → rows value width (at offset width i) (n - i) ≡ []
  rows_end offset n i h = let e : n - i ≡ 0 = omega arith in rw e refl

  -- a fact at every row
  pub all_rows : (P : A → Type 0) (offset n : ℕ) → ((i : ℕ) → i < n → P (value (at offset width i))) → All P (rows value width offset n)
  all_rows P offset zero h = tt
  all_rows P offset (suc n) h = (
    rw at_zero at (h 0 (omega arith)),
    all_rows P (offset + width) n (λ i l. rw at_shift at (h (suc i) (omega arith))),
  )

  pub rows_all : (P : A → Type 0) (offset n : ℕ) → All P (rows value width offset n) → (i : ℕ) → i < n → P (value (at offset width i))
  rows_all P offset zero h i l = absurd (omega arith)
  rows_all P offset (suc n) h zero l = rw at_zero h.0
  rows_all P offset (suc n) h (suc i) l = rw at_shift (rows_all P (offset + width) n h.1 i (omega arith))

module _ {A : Type 0} (width : ℕ) (bytes : A → List ℕ) (size : (a : A) → length (bytes a) ≡ width) where
  pub length_laid_rows : (xs : List A) → length (laid_rows bytes xs) ≡ length xs * width
  length_laid_rows [] = omega arith
  length_laid_rows (x ∷ xs) = length-append (bytes x) (laid_rows bytes xs) ∙ ap₂ ◌+◌ (size x) (length_laid_rows xs) ∙ omega arith

  module _ (Ok : A → Type 0) (value : List ℕ → ℕ → A) (back : (pre : List ℕ) (a : A) (post : List ℕ) → Ok a → value (pre ++ (bytes a ++ post)) (length pre) ≡ a) where
    pub rows_back : (pre : List ℕ) (xs : List A) (post : List ℕ) → All Ok xs → rows (value (pre ++ (laid_rows bytes xs ++ post))) width (length pre) (length xs) ≡ xs
    rows_back pre [] post h = refl
    rows_back pre (x ∷ xs) post h = ap₂ ◌∷◌
        (ap (λ (l : List ℕ). value l (length pre)) (ap (◌++◌ pre) (append_assoc (bytes x) (laid_rows bytes xs) post)) ∙ back pre x (laid_rows bytes xs ++ post) h.0)
        (ap₂ (λ (l : List ℕ) (o : ℕ). rows (value l) width o (length xs)) turn (sym (length-append pre (bytes x) ∙ ap (◌+◌ (length pre)) (size x)))
        ∙ rows_back (pre ++ bytes x) xs post h.1)
      where
        turn : pre ++ (bytes x ++ laid_rows bytes xs ++ post) ≡ pre ++ bytes x ++ (laid_rows bytes xs ++ post)
        turn = simp append_assoc

pub laid_map : {A B : Type 0} (bytes : B → List ℕ) (image : A → B) (xs : List A) → laid_rows bytes (map image xs) ≡ laid_rows (λ (x : A). bytes (image x)) xs
laid_map bytes image [] = refl
laid_map bytes image (x ∷ xs) = ap (◌++◌ (bytes (image x))) (laid_map bytes image xs)
