-- The census as it is put: words behind words make a line, lines behind lines the text.
--     telling                    a line of two counts; the four lines
--     silencing                  the line of a box that is named, or none
--     Silences, silences         the loop over the rows
--     passing                    the judge's line, the counts, and these lines
use mathlib.Core.Path.{◌≡◌, refl, ◌∙◌}
use mathlib.Core.Bool.{Bool, true, false, not}
use mathlib.Core.List.{List, [], ◌∷◌}
use Prim.Native.Nat.{ℕ, ◌+◌, ◌*◌, ◌^◌, ◌≤◌, ◌<◌}
use native.Mathlib.Omega.{arith}
use lib.ListN.{length}
use borrow.Author.Tests.{not-true, not-false}
use Rattle.lists.specs.Gather.{joined}
use Rattle.lists.proofs.Gather.{joined_next}
use Rattle.numbers.specs.Decimal.{decimal}
use Rattle.layout.specs.Layout.{node_count}
use Rattle.layout.specs.declared.Form.{Form}
use Rattle.nodes.specs.Node.{node_id}
use Rattle.lines.specs.Line.{text, spaced, line_bytes, longest_line}
use Rattle.lines.specs.Written.{Written}
use Rattle.lines.specs.declared.Line.TheVariants.{Pass}
use Rattle.lines.proofs.Lengths.{pass_length}
use Rattle.lines.proofs.Writing.{written_then, written_words, written_line}
use Rattle.counting.specs.Counted.{counted_at}
use Rattle.counting.specs.Lines.{share_line, silent_line, count_lines}
use Rattle.counting.specs.Rows.{silent_row, pass_rows}
use Rattle.counting.specs.declared.Counted.TheVariants.{Silent}
use Rattle.counting.specs.declared.Tally.{Tally}

-- `WORD PART of WHOLE`
module _ (word a b c d e g : List ℕ) (part whole i j k l m n : ℕ) where
  pub share_put : Written word a i b j → Written (spaced (decimal part ∷ [])) b j c k → Written (text " of") c k d l → Written (spaced (decimal whole ∷ [])) d l e m
      → Written (text "\n") e m g n → Written (share_line word part whole) a i g n
  unfolding share_line spaced
  share_put first p o w z =
      written_line a b e g i j m n word (decimal part ∷ text "of" ∷ decimal whole ∷ []) first
      (written_words b c e (decimal part ∷ []) (text "of" ∷ decimal whole ∷ []) j k m p
      (written_words c d e (text "of" ∷ []) (decimal whole ∷ []) k l m o w)) z

-- the four lines
module _ (t : Tally) (a b c d e f g : List ℕ) (i j k l m n o : ℕ) where
  pub counts_put : Written (share_line (text "holding") t.holding t.boxes) a i b j → Written (share_line (text "assumed") t.assumed t.inputs) b j c k
      → Written (share_line (text "promised") t.promised t.promises) c k d l
      → Written (text "asked") d l e m → Written (spaced (decimal t.asked ∷ [])) e m f n → Written (text "\n") f n g o → Written (count_lines t) a i g o
  unfolding count_lines
  counts_put h s p q w z =
      written_then a b g _ _ i j o h
      (written_then b c g _ _ j k o s
      (written_then c d g _ _ k l o p
      (written_line d e f g l m n o (text "asked") (decimal t.asked ∷ []) q w z)))

-- `silent ID`
pub name_put : (a b c d : List ℕ) (i j k l id : ℕ) → Written (text "silent") a i b j → Written (spaced (decimal id ∷ [])) b j c k → Written (text "\n") c k d l
    → Written (silent_line id) a i d l
unfolding silent_line
name_put a b c d i j k l id w s n = written_line a b c d i j k l (text "silent") (decimal id ∷ []) w s n

-- the line of a box that is named, or none
module _ (f : Form) (network list : List ℕ) (x : ℕ) (t : Bool) (q : t ≡ counted_at f network list Silent x) where
  pub silent_off : (room : List ℕ) (at : ℕ) → not t ≡ true → Written (silent_row f network list x) room at room at
  unfolding silent_row Written
  silent_off room at z = rw (← q, not-true t z) (refl, omega arith)

  pub silent_on : (a b : List ℕ) (i j node id : ℕ) → not t ≡ false → node ≡ node_id f network x → id ≡ node → Written (silent_line id) a i b j
      → Written (silent_row f network list x) a i b j
  unfolding silent_row
  silent_on a b i j node id z e g w = rw (← q, not-false t z, ← e, ← g) w

pub ruleset telling = (share_put, counts_put, name_put)

pub ruleset silencing = (silent_off, silent_on)

-- what the loop over the rows knows
pub record Silences (f : Form) (network list before after : List ℕ) (n at next i : ℕ) : Type 0 where
  pub within : i ≤ n
  pub put : Written (joined (silent_row f network list) i) before at after next
  pub near : next ≤ at + 28 * i
  pub long : length after ≡ length before

module _ (f : Form) (network list before : List ℕ) (n at : ℕ) where
  pub silences_start : Silences f network list before before n at at 0
  unfolding Written joined
  silences_start = record { within = omega arith; put = (refl, omega arith); near = omega arith; long = refl }

  module _ (after : List ℕ) (next i : ℕ) (s : Silences f network list before after n at next i) where
    pub silences_room : i < n → n ≤ 65535 → at < 2 ^ 63 → next + 28 < 2 ^ 64
    silences_room l few low = let h = s.near in omega arith

    pub silences_next : (after' : List ℕ) (next' : ℕ) → i < n → Written (silent_row f network list i) after next after' next' → next' ≤ next + 28
        → length after' ≡ length after → Silences f network list before after' n at next' (i + 1)
    silences_next after' next' l w near long =
        let h = s.near in
        record {
          within = omega arith;
          put = rw (joined_next (silent_row f network list) i) (written_then before after after' _ _ at next next' s.put w);
          near = omega arith;
          long = long ∙ s.long;
        }

    pub silences_end : n ≤ i → n ≡ node_count network → Written (joined (silent_row f network list) (node_count network)) before at after next
    silences_end l q = let e : i ≡ node_count network = let w = s.within in omega arith in rw e at s.put

pub ruleset silences = (silences_start, silences_room, silences_next, silences_end)

-- the judge's line of a pass, and what is behind it
module _ (boxes r : ℕ) (a b : List ℕ) (w : Written (line_bytes (Pass boxes)) a 0 b r) where
  near : r ≤ longest_line
  unfolding Written line_bytes
  near = let e = w.1 in let h = pass_length boxes in omega arith

  pub pass_room : r + 400 < 2 ^ 64
  pass_room = let h = near in omega arith

  pub pass_behind : (s : ℕ) → s ≤ r + 400 → s < 2 ^ 63
  pass_behind s l = let h = near in omega arith

module _ (f : Form) (network list : List ℕ) (t : Tally) (a b c d : List ℕ) (i j k : ℕ) where
  pub pass_put : Written (line_bytes (Pass t.boxes)) a 0 b i → Written (count_lines t) b i c j
      → Written (joined (silent_row f network list) (node_count network)) c j d k → Written (pass_rows f network list t) a 0 d k
  unfolding pass_rows line_bytes
  pass_put p q s = written_then a b d _ _ 0 i k p (written_then b c d _ _ i j k q s)

pub ruleset passing = (pass_room, pass_behind, pass_put)
