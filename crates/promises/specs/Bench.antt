-- The bench examples of document 01 that are marked P, and rows for document 02's K1 (policies that add 0), K2 (trails) and K3 (joins): one
-- table, one statement.
-- Each row has an answer of the definitions, as numbers or as the line that a program prints, and what it must be.
use Rattle.std.specs.Prelude.{◌≡◌, refl, cond, ℕ}
use mathlib.Core.List.{List, [], ◌∷◌, ◌++◌, map, filter_map}
use Rattle.std.proofs.Math.Option.{Option, none, some, Option-elim}
use Rattle.lists.specs.Best.{best}
use Rattle.lists.specs.First.{first_bad, every}
use Rattle.lists.specs.Rising.{least, place}
use Rattle.lists.specs.Stride.{at}
use Rattle.numbers.specs.BigEndian.{u16_at, u32_at, u16_bytes, u32_bytes}
use Rattle.numbers.specs.Decimal.{decimal, places}
use Rattle.routes.specs.Alike.{same_policy}
use Rattle.routes.specs.Carry.{highest, carried, lacks, barred, dear, new_tags, crossed}
use Rattle.routes.specs.Demand.{meets}
use Rattle.numbers.specs.Zeros.{zeros}
use Rattle.routes.specs.Form.{fields_at, fields_bytes, route_at, route_bytes, route_formed, policy_at, policy_bytes, preference_formed, policy_formed}
use Rattle.routes.specs.Order.{beats, same}
use Rattle.routes.specs.declared.Policy.{Policy}
use Rattle.routes.specs.declared.Route.{Route}
use Rattle.routes.specs.declared.Route.TheVariants.{None, Held}
use Rattle.lists.specs.Answer.{Answer, given, refused}
use Rattle.networks.specs.Cut.{leaves, feeds, fragment_of, cut}
use Rattle.networks.specs.Join.{joining, join}
use Rattle.networks.specs.Judge.{fault, verdict_from, judge}
use Rattle.networks.specs.Sheets.{number, note, listed}
use Rattle.networks.specs.Solution.{due, mapping}
use Rattle.networks.specs.Trail.{supplier, sender, behind, trail_behind, showing}
use Rattle.records.specs.Edge.{edge_to, edge_from, edge_key, boxed, owned, ends_formed, edge_formed, edge_ok, left_by, input_ok}
use Rattle.layout.specs.Layout.{entry_offset, policy_offset, node_offset, edge_offset}
use Rattle.entries.specs.Entries.{entry_id, fragment_formed, entry_formed, entry_ok, entries_refusal}
use Rattle.layout.specs.Form.{node_width, entry_width, form_of, versioned}
use Rattle.nodes.specs.Policy.{policy_ok}
use Rattle.records.specs.Network.{many_parts, network_refusal}
use Rattle.nodes.specs.Node.{kind_formed, promise_formed, demand_formed, node_formed, node_id, node_ok, is_own, ownless, row_of}
use Rattle.reading.specs.Parts.{demand_at, demand_bytes, promise_at, promise_bytes, box_at, box_bytes, wire_at, wire_bytes, sheet_entry_at, sheet_entry_bytes, list_entry_at, list_entry_bytes}
use Rattle.reading.specs.Whole.{read_network, write_network, read_sheet, write_sheet, read_list, write_list}
use Rattle.reading.specs.Largest.{largest_network, largest_entries}
use Rattle.lines.specs.Bound.{within_bound}
use Rattle.lines.specs.Line.{text, spaced, line, route_words, pass_line, refused_line, found_line, box_line}
use Rattle.lines.specs.Split.{first_length}
use Rattle.judging.specs.Judging.{judge_records}
use Rattle.judging.specs.Text.{verdict_line, judge_bound, naming_bound, judge_text}
use Rattle.tracing.specs.Tracing.{show_records}
use Rattle.tracing.specs.Text.{trail_lines, shown_text, trail_output, trail_text}
use Rattle.cutting.specs.Cutting.{cut_network, cut_records}
use Rattle.outcomes.specs.Text.{record_output}
use Rattle.joining.specs.Joining.{join_networks, join_records}
use Rattle.joining.specs.Text.{join_bound, join_text}
use Rattle.promises.specs.BenchNetworks.{held, adds, masks, chain_record, two_answers, two_senders, listing, splitting, pair_record, pair_listing, fed_record, fed_listing, owner_record, both_record, two_fed_record}

pub record Example : Type 0 where
  pub answer : List ℕ
  pub expected : List ℕ

abbrev is : List ℕ → List ℕ → Example
is a e = record { answer = a; expected = e }

-- a route's numbers: none has none
abbrev shown : Route → List ℕ
shown None = []
shown (Held f) = f.preference ∷ f.cost ∷ f.origin ∷ f.tags ∷ []

-- whether the first of two routes beats the second, and the second the first: 1 where it does
abbrev beating : Route → Route → List ℕ
beating x y = cond (beats x y) 1 0 ∷ cond (beats y x) 1 0 ∷ []

-- a route over a wire that may give costs up to 65,535
abbrev over : Policy → Route → List ℕ
over p r = shown (carried highest p r)

-- what a cut answers: a length, or a number and a place
abbrev size_of : Answer ℕ → List ℕ
size_of (given length) = length ∷ []
size_of (refused number place) = number ∷ place ∷ []

-- fragment 1 of the chain, box 3, into a buffer of this length
abbrev cutting : ℕ → List ℕ
cutting room = size_of (cut_records (chain_record (held 100 0 1 0) 2) (splitting (held 100 0 1 0) (held 100 1 1 0) (held 100 2 1 0)) 1 room)

-- what the tracing program prints when it reads a network, the id of a box and a list
abbrev tracing : List ℕ → ℕ → List ℕ → List ℕ
tracing network id list = trail_text (network ++ (u16_bytes id ++ list))

-- what the joining program writes when it reads two networks
abbrev joined : List ℕ → List ℕ → List ℕ
joined first second = join_text (first ++ second)

-- box 1 by the policy that adds 1
abbrev owning : Option Route → List ℕ
owning = owner_record (adds 1 ∷ [])

abbrev pub bench : List Example
bench =
    -- better: which of two beats the other, and the best of them, whichever stands first
    is (beating (held 200 9 1 0) (held 100 5 1 0)) (1 ∷ 0 ∷ []) ∷
    is (shown (best beats (held 200 9 1 0) (held 100 5 1 0))) (200 ∷ 9 ∷ 1 ∷ 0 ∷ []) ∷
    is (shown (best beats (held 100 5 1 0) (held 200 9 1 0))) (200 ∷ 9 ∷ 1 ∷ 0 ∷ []) ∷
    is (beating (held 100 5 1 0) (held 100 5 2 0)) (1 ∷ 0 ∷ []) ∷
    is (shown (best beats (held 100 5 1 0) (held 100 5 2 0))) (100 ∷ 5 ∷ 1 ∷ 0 ∷ []) ∷
    is (shown (best beats (held 100 5 2 0) (held 100 5 1 0))) (100 ∷ 5 ∷ 1 ∷ 0 ∷ []) ∷
    -- cost
    is (over (adds 1) (held 100 65534 1 0)) (100 ∷ 65535 ∷ 1 ∷ 0 ∷ []) ∷
    is (over (adds 1) (held 100 65535 1 0)) [] ∷
    -- tags
    is (over (masks 0 0 3 1) (held 100 5 1 7)) (100 ∷ 5 ∷ 1 ∷ 5 ∷ []) ∷
    is (over (masks 6 0 0 0) (held 100 5 1 5)) [] ∷
    is (over (masks 0 6 0 0) (held 100 5 1 4)) [] ∷
    -- what the judge prints when it reads the chain and a list: costs 0, 1, 2, and with ceiling 1; no route anywhere; without box 1's start
    is (judge_text (chain_record (held 100 0 1 0) 2 ++ listing (held 100 0 1 0) (held 100 1 1 0) (held 100 2 1 0))) (text "pass 3\n") ∷
    is (judge_text (chain_record (held 100 0 1 0) 1 ++ listing (held 100 0 1 0) (held 100 1 1 0) (held 100 2 1 0))) (text "found 33 3 3 100 2 1 0\n") ∷
    is (judge_text (chain_record (held 100 0 1 0) 2 ++ listing None None None)) (text "found 31 1 1 100 0 1 0\n") ∷
    is (judge_text (chain_record None 2 ++ listing None None None)) (text "found 33 3 3 none\n") ∷
    -- its cut 1, 2 | 3 into a buffer of 81 and of 82
    is (cutting 81) (20 ∷ 82 ∷ []) ∷
    is (cutting 82) (82 ∷ []) ∷
    -- two answers: one, its mirror, and both boxes at the lesser route
    is (judge_text (two_answers ++ listing (held 100 0 1 0) (held 100 1 1 0) (held 200 2 1 1))) (text "pass 3\n") ∷
    is (judge_text (two_answers ++ listing (held 100 0 1 0) (held 200 2 1 1) (held 100 1 1 0))) (text "pass 3\n") ∷
    is (judge_text (two_answers ++ listing (held 100 0 1 0) (held 100 1 1 0) (held 100 1 1 0))) (text "found 31 2 2 200 2 1 1\n") ∷
    -- policies that add 0: 65,535 add 0; two boxes that hold what neither started, each by quoting the other, and what becomes of them where
    -- the wires add 1; a policy that no wire uses
    is (judge_text (pair_record (adds 0 ∷ []) (held 100 65535 1 0) ++ pair_listing (held 100 65535 1 0) (held 100 65535 1 0))) (text "refused 6 10\n") ∷
    is (judge_text (pair_record (adds 0 ∷ []) None ++ pair_listing (held 100 5 1 0) (held 100 5 1 0))) (text "refused 6 10\n") ∷
    is (judge_text (pair_record (adds 1 ∷ []) None ++ pair_listing (held 100 5 1 0) (held 100 5 1 0))) (text "found 31 1 1 100 6 1 0\n") ∷
    is (judge_text (pair_record (adds 1 ∷ adds 0 ∷ []) None ++ pair_listing None None)) (text "refused 6 23\n") ∷
    -- trails on the chain: from its end, from its start, of a list that fails, and where there is no such box, whatever the verdict
    is (tracing (chain_record (held 100 0 1 0) 2) 3 (listing (held 100 0 1 0) (held 100 1 1 0) (held 100 2 1 0))) (text "3 100 2 1 0\n2 100 1 1 0\n1 100 0 1 0\n") ∷
    is (tracing (chain_record (held 100 0 1 0) 2) 1 (listing (held 100 0 1 0) (held 100 1 1 0) (held 100 2 1 0))) (text "1 100 0 1 0\n") ∷
    is (tracing (chain_record (held 100 0 1 0) 2) 3 (listing None None None)) (text "found 31 1 1 100 0 1 0\n") ∷
    is (tracing (chain_record (held 100 0 1 0) 2) 9 (listing (held 100 0 1 0) (held 100 1 1 0) (held 100 2 1 0))) (text "refused 18 9\n") ∷
    is (tracing (chain_record (held 100 0 1 0) 2) 9 (listing None None None)) (text "refused 18 9\n") ∷
    -- trails of one of the two answers, and of its mirror
    is (tracing two_answers 3 (listing (held 100 0 1 0) (held 100 1 1 0) (held 200 2 1 1))) (text "3 200 2 1 1\n2 100 1 1 0\n1 100 0 1 0\n") ∷
    is (tracing two_answers 3 (listing (held 100 0 1 0) (held 200 2 1 1) (held 100 1 1 0))) (text "3 100 1 1 0\n1 100 0 1 0\n") ∷
    -- a box that holds none; one that an input supplies; the input itself, which is no own box
    is (tracing (pair_record (adds 1 ∷ []) None) 2 (pair_listing None None)) (text "2 none\n") ∷
    is (tracing (fed_record 2 (held 100 0 1 0)) 2 (fed_listing (held 100 1 1 0))) (text "2 100 1 1 0\n1 100 0 1 0\n") ∷
    is (tracing (fed_record 2 (held 100 0 1 0)) 1 (fed_listing (held 100 1 1 0))) (text "refused 18 1\n") ∷
    -- a box that two senders supply, of which the lowest is shown; the same box where it starts with that route, and the trail stops there
    is (tracing (two_senders None) 3 (listing (held 100 0 1 0) (held 100 0 1 0) (held 100 1 1 0))) (text "3 100 1 1 0\n1 100 0 1 0\n") ∷
    is (tracing (two_senders (held 100 1 1 0)) 3 (listing (held 100 0 1 0) (held 100 0 1 0) (held 100 1 1 0))) (text "3 100 1 1 0\n") ∷
    -- a box and its owner, in either order: the input that the other owns disappears; one input of two networks, which appears once
    is (joined (owning (some (held 100 0 1 0))) (fed_record 2 (held 100 0 1 0))) (both_record (some (held 100 0 1 0))) ∷
    is (joined (fed_record 2 (held 100 0 1 0)) (owning (some (held 100 0 1 0)))) (both_record (some (held 100 0 1 0))) ∷
    is (joined (fed_record 3 None) (fed_record 2 None)) (two_fed_record None) ∷
    -- a box that both own, also where they assume different routes of another; a promise that is not what is assumed; none, also where none
    -- is assumed; two different assumptions for one box, also where the policies differ
    is (joined (fed_record 2 None) (fed_record 2 (held 100 0 1 0))) (text "refused 21 2\n") ∷
    is (joined (owning (some (held 100 0 1 0))) (fed_record 2 (held 100 1 1 0))) (text "refused 22 1\n") ∷
    is (joined (owning none) (fed_record 2 None)) (text "refused 22 1\n") ∷
    is (joined (fed_record 2 (held 100 0 1 0)) (fed_record 3 (held 100 1 1 0))) (text "refused 22 1\n") ∷
    is (joined (owner_record (adds 2 ∷ []) none) (fed_record 2 None)) (text "refused 22 1\n") ∷
    -- policies that differ, also by one that no wire uses
    is (joined (owner_record (adds 2 ∷ []) (some None)) (fed_record 2 None)) (text "refused 23 0\n") ∷
    is (joined (owner_record (adds 1 ∷ adds 1 ∷ []) (some None)) (fed_record 2 None)) (text "refused 23 0\n") ∷
    -- a second network that is not there; the joint record's room; the longest input
    is (joined (owning none) []) (text "refused 1 0\n") ∷
    is (size_of (join_records (owning (some None)) (fed_record 2 None) 81)) (20 ∷ 82 ∷ []) ∷
    is (size_of (join_records (owning (some None)) (fed_record 2 None) 82)) (82 ∷ []) ∷
    is (join_bound ∷ []) (70292 ∷ []) ∷
    []

-- every answer is the expected one
pub bench_holds : map (λ (x : Example). x.answer) bench ≡ map (λ (x : Example). x.expected) bench
unfolding first_bad every least place at filter_map Option-elim
    u16_at u32_at u16_bytes u32_bytes zeros decimal places
    beats same carried lacks barred dear new_tags crossed meets fields_at fields_bytes route_at route_bytes route_formed policy_at policy_bytes preference_formed policy_formed
    number note listed due mapping fault verdict_from judge leaves feeds fragment_of cut supplier sender behind trail_behind showing
    form_of versioned node_width entry_width entry_offset policy_offset node_offset edge_offset
    entry_id fragment_formed entry_formed entry_ok entries_refusal
    policy_ok kind_formed promise_formed demand_formed node_formed node_id node_ok is_own ownless row_of
    edge_to edge_from edge_key boxed owned ends_formed edge_formed edge_ok left_by input_ok many_parts network_refusal
    demand_at demand_bytes promise_at promise_bytes box_at box_bytes wire_at wire_bytes sheet_entry_at sheet_entry_bytes list_entry_at list_entry_bytes
    read_network write_network read_sheet write_sheet read_list write_list largest_network largest_entries
    line spaced route_words pass_line refused_line found_line box_line within_bound first_length judge_records verdict_line judge_bound judge_text cut_network cut_records
    naming_bound show_records trail_lines shown_text trail_output trail_text
    same_policy joining join join_networks join_records record_output join_bound join_text
bench_holds = refl
