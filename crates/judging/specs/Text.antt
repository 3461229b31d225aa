-- What the judging program prints of what it reads (document 01, 'The two programs').
use Rattle.std.specs.Prelude.{ℕ, ◌+◌, List}
use Rattle.routes.specs.declared.Route.{Route}
use Rattle.lists.specs.Answer.{Answer, given, refused}
use Rattle.networks.specs.Judge.{Verdict, pass, found}
use Rattle.layout.specs.Form.{widest, list_lead}
use Rattle.reading.specs.Largest.{largest_network, largest_entries}
use Rattle.lines.specs.Split.{first_record, rest_of}
use Rattle.lines.specs.Line.{pass_line, refused_line, found_line}
use Rattle.lines.specs.Bound.{within_bound}
use Rattle.judging.specs.Judging.{judge_records}

-- `pass JUDGED`; `found NUMBER NODE JUDGED` and the route; or `refused NUMBER PLACE`
unfoldable pub verdict_line : Answer (Verdict Route) → List ℕ
verdict_line (given (pass count)) = pass_line count
verdict_line (given (found number node route count)) = found_line number node count route
verdict_line (refused number place) = refused_line number place

-- the longest input: the largest network and the largest list
unfoldable pub judge_bound : ℕ
judge_bound = largest_network widest + largest_entries widest list_lead

-- the longest input of a program that names a box: two bytes more
unfoldable pub naming_bound : ℕ
naming_bound = judge_bound + 2

-- The first record is the network, and the rest is the list.
unfoldable pub judge_text : List ℕ → List ℕ
judge_text input = within_bound judge_bound input (verdict_line (judge_records (first_record input) (rest_of input)))
