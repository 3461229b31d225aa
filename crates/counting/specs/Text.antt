-- What the counting program prints: the judge's line, and behind a pass the census.
use Rattle.std.specs.Prelude.{List, [], ◌++◌, ℕ, ◌+◌, ◌*◌}
use Rattle.lists.specs.Answer.{Answer, given, refused}
use Rattle.routes.specs.Carry.{highest}
use Rattle.routes.specs.declared.Route.{Route}
use Rattle.networks.specs.Judge.{Verdict, pass, found}
use Rattle.networks.specs.Silence.{Census, census}
use Rattle.reading.specs.Asking.{house_asking}
use Rattle.reading.specs.House.{house}
use Rattle.reading.specs.Whole.{read_network, read_list, network_of, list_of}
use Rattle.layout.specs.declared.Form.{Form}
use Rattle.lines.specs.Bound.{within_bound}
use Rattle.lines.specs.Line.{longest_line}
use Rattle.lines.specs.Split.{first_record, rest_of}
use Rattle.judging.specs.Judging.{judge_records}
use Rattle.judging.specs.Text.{verdict_line, judge_bound}
use Rattle.counting.specs.Lines.{census_lines}

-- the census of what two records say
abbrev pub census_of : List ℕ → List ℕ → Census
census_of network list = census (house highest) (network_of network) house_asking (list_of list)

-- a census is taken of a list that passes, and of no other
abbrev pub behind_pass : Answer (Verdict Route) → List ℕ → List ℕ
behind_pass (given (pass count)) lines = lines
behind_pass (given (found number node route count)) lines = []
behind_pass (refused number place) lines = []

-- the judge's line of an answer, and behind a pass the census of what two records of a form say
unfoldable pub census_from : Form → List ℕ → List ℕ → Answer (Verdict Route) → List ℕ
census_from f network list answer = verdict_line answer
    ++ behind_pass answer (census_lines (census (house highest) (read_network f network) house_asking (read_list f list)))

unfoldable pub census_records : List ℕ → List ℕ → List ℕ
census_records network list =
    verdict_line (judge_records network list) ++ behind_pass (judge_records network list) (census_lines (census_of network list))

-- Room enough for every census: the judge's line, four lines of counts, and a line for each of as many boxes as a record can have.
abbrev pub longest_census : ℕ
longest_census = longest_line + 400 + 28 * 1024

-- The first record is the network, and the rest is the list, as the judge's input has them.
unfoldable pub census_text : List ℕ → List ℕ
census_text input = within_bound judge_bound input (census_records (first_record input) (rest_of input))
