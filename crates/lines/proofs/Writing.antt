-- What words that are put one behind another come to: the laws that a text of any number of words and lines is put by.
--     written_then                bytes behind bytes: a line behind lines
--     written_spaced, -words      a word behind a space, words behind words
--     written_line                a line: its first word, the words behind it, a line feed
--     placing                     a text that was measured, and then put where it fits
use mathlib.Core.Path.{◌≡◌, refl, sym, ap, ◌∙◌}
use mathlib.Core.List.{List, [], ◌∷◌, ◌++◌, append_assoc, append-nil}
use Prim.Native.Nat.{ℕ, ◌+◌, ◌≤◌, ◌<◌}
use native.Mathlib.Omega.{arith}
use lib.ListN.{length, length-append}
use lib.Seq.{sets}
use Rattle.lists.specs.Laid.{placed}
use Rattle.lists.proofs.Laid.{placed_fits, placed_short, sets_append, stored_over}
use Rattle.lines.specs.Line.{text, spaced, line}
use Rattle.lines.specs.Written.{Written}

-- bytes behind bytes
pub written_then : (a b c xs ys : List ℕ) (i j k : ℕ) → Written xs a i b j → Written ys b j c k → Written (xs ++ ys) a i c k
unfolding Written
written_then a b c xs ys i j k w v =
    let e : b ≡ sets a i xs = w.0 in
    let n : j ≡ i + length xs = w.1 in
    let m : k ≡ j + length ys = v.1 in
    (v.0 ∙ rw (e, n) (sym (sets_append a i xs ys)), omega (arith, length-append xs ys))

-- a word behind a space
pub written_spaced : (a b c w : List ℕ) (i j k : ℕ) → Written (text " ") a i b j → Written w b j c k → Written (spaced (w ∷ [])) a i c k
unfolding spaced
written_spaced a b c w i j k s v = rw append-nil (written_then a b c (text " ") w i j k s v)

-- words behind words
spaced_append : (vs ws : List (List ℕ)) → spaced (vs ++ ws) ≡ spaced vs ++ spaced ws
unfolding spaced
spaced_append [] ws = refl
spaced_append (v ∷ vs) ws = ap (λ (l : List ℕ). text " " ++ l) (ap (λ (l : List ℕ). v ++ l) (spaced_append vs ws) ∙ sym (append_assoc v (spaced vs) (spaced ws)))

pub written_words : (a b c : List ℕ) (vs ws : List (List ℕ)) (i j k : ℕ) → Written (spaced vs) a i b j → Written (spaced ws) b j c k
    → Written (spaced (vs ++ ws)) a i c k
written_words a b c vs ws i j k w v = rw (spaced_append vs ws) (written_then a b c (spaced vs) (spaced ws) i j k w v)

-- a line: its first word, the words behind it, a line feed
pub written_line : (a b c d : List ℕ) (i j k l : ℕ) (first : List ℕ) (ws : List (List ℕ)) → Written first a i b j → Written (spaced ws) b j c k → Written (text "\n") c k d l
    → Written (line first ws) a i d l
unfolding line
written_line a b c d i j k l first ws f w e = written_then a b d first (spaced ws ++ text "\n") i j l f (written_then b c d (spaced ws) (text "\n") j k l w e)

-- a text that was measured with some other room, and then put where it fits
module _ (bytes none none' : List ℕ) (n : ℕ) (m : Written bytes none 0 none' n) where
  pub measured : n ≡ length bytes
  unfolding Written
  measured = let b = m.1 in omega arith

  pub placed_none : (out : List ℕ) → length out < n → out ≡ placed bytes out
  placed_none out h = let e = measured in placed_short bytes out out (omega arith) refl

  pub placed_all : (out out' : List ℕ) (r : ℕ) → n ≤ length out → Written bytes out 0 out' r → out' ≡ placed bytes out
  unfolding Written
  placed_all out out' r h w = let e = measured in placed_fits bytes out out' (omega arith) (stored_over out out' bytes (omega arith) w.0)

pub ruleset placing = (measured, placed_none, placed_all)
