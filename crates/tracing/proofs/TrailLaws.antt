-- The theorems about trails, of what two records say where the list passes: every policy of a sound record adds, so that a sender's route is
-- cheaper and the trail from it is shorter.
--     from_last, from_next       the lines of a trail that stops at its first box, and of one that goes on
--     sent_boxed, sent_cheaper   a sender is a box, and holds a cheaper route
--     behind_few                 no more boxes are behind an own box than the network has own boxes
use mathlib.Core.Path.{◌≡◌, sym, ◌∙◌}
use mathlib.Core.Bool.{true}
use mathlib.Core.List.{List, ◌++◌, append-nil}
use mathlib.Core.Option.{none, some}
use Prim.Native.Nat.{ℕ, ◌≤◌, ◌<◌}
use lib.ListN.{length}
use Rattle.lists.proofs.Answer.{given_same}
use Rattle.routes.specs.Carry.{highest}
use Rattle.routes.specs.declared.Route.{Route}
use Rattle.networks.specs.Network.{own_boxes}
use Rattle.networks.specs.Solution.{Solution}
use Rattle.networks.specs.Sound.{Sound}
use Rattle.networks.specs.Trail.{trail_behind}
use Rattle.networks.proofs.Laws.Judging.{pass_verdict, solved}
use Rattle.networks.proofs.Laws.Senders.{trail_end}
use Rattle.networks.proofs.Trails.{Settled, sender_there, sender_falls, trail_next, shown_short}
use Rattle.layout.specs.declared.Form.{Form}
use Rattle.records.specs.Checked.{CheckedNetwork}
use Rattle.records.specs.Edge.{boxed, owned}
use Rattle.reading.specs.House.{house, cost_of}
use Rattle.reading.specs.Whole.{HouseNetwork, HouseList, bounds, read_network, read_list}
use Rattle.reading.proofs.Adding.{fine_adds}
use Rattle.reading.proofs.HouseRoutes.{house_choice, house_costs}
use Rattle.reading.proofs.ReadSound.{read_sound}
use Rattle.reading.proofs.Said.{has_box_read, owns_read}
use Rattle.preparing.specs.Prepared.{Prepared}
use Rattle.preparing.proofs.PreparedLaws.{prepared_checked}
use Rattle.judging.specs.Judging.{verdict_at}
use Rattle.tracing.specs.Text.{trail_line, trail_lines, trail_from}
use Rattle.tracing.specs.Tracing.{mapping_in, sender_in, Passing}

module _ (f : Form) (network list rows stands : List ℕ) (h : Prepared f network list rows stands) (p : Passing f network list) where
  abbrev N : HouseNetwork
  N = read_network f network

  abbrev L : HouseList
  L = read_list f list

  abbrev ℒ : ℕ → Route
  ℒ = mapping_in f network list

  checked : CheckedNetwork f network
  checked = prepared_checked f network list rows stands h

  sound : Sound (bounds f) N
  sound = read_sound f network checked.bytes checked.sound

  solution : Solution (house highest) N ℒ
  unfolding Passing verdict_at
  solution = (solved (house highest) N L sound.boxes_rise
      (pass_verdict (house highest) N L 0 p.0 (own_boxes N) (given_same p.1)).0).0

  abbrev settled : Settled (house highest) (bounds f) N ℒ
  settled = record {
    sound = sound;
    choice = house_choice highest;
    solved = solution;
    costs = house_costs highest;
    lawful = fine_adds f network checked.sound;
  }

  module _ (i : ℕ) where
    -- the trail stops at the box
    pub from_last : sender_in f network list i ≡ none → trail_from f network list i ≡ trail_line f network list i
    unfolding trail_from trail_lines trail_line
    from_last e = rw (trail_end (house highest) N ℒ i e) (append-nil (trail_line f network list i))

    -- it goes back to another
    module _ (j : ℕ) (e : sender_in f network list i ≡ some j) where
      pub from_next : trail_from f network list i ≡ trail_line f network list i ++ trail_from f network list j
      unfolding trail_from trail_lines trail_line
      from_next = rw (trail_next settled i j e)

      pub sent_boxed : boxed f network j ≡ true
      sent_boxed = sym (has_box_read f network j) ∙ sender_there (house highest) sound ℒ i j e

      pub sent_cheaper : cost_of (ℒ j) < cost_of (ℒ i)
      sent_cheaper = sender_falls settled i j e

    pub behind_few : owned f network i ≡ true → length (trail_behind (house highest) N ℒ i) ≤ length (own_boxes N)
    behind_few o = shown_short settled i (owns_read f network i ∙ o)
