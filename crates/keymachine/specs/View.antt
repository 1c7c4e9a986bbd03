-- What a machine by value and its answers mean, in the values of the rules.
use Rattle.std.specs.Prelude
use Rattle.std.specs.Prelude.{Ok, Err, ℕ, List}
use Rattle.rules.specs.Calls as c
use Rattle.keyvalues.specs.declared.refusal.Refusal.{Refusal}
use Rattle.keyvalues.specs.View.{number_of}
use Rattle.keytables.specs.View.{tables_of}
use Rattle.keptcalls.specs.declared.words.CallWords.{CallWords}
use Rattle.keybind.specs.View.{map_kept}
use Rattle.keypairs.specs.View.{live_of}
use Rattle.keymachine.specs.declared.machine.ModalMachine.{ModalMachine}
use Rattle.keymachine.specs.declared.scanner.Scanner.{Scanner}

-- a machine beside the words of the kept calls
abbrev pub machine_of : List CallWords → ModalMachine → c.Machine c.graph_kind
machine_of ws m = map_kept ws m.map (live_of (tables_of m.map.tables) m.live)

abbrev pub scanner_of : Scanner → c.Machine c.graph_kind
scanner_of s = machine_of s.kept s.machine

-- a key's answer, with the rounds that were made
abbrev pub press_of : ℕ × Prelude.Result (Unit {0}) Refusal → c.Answer
press_of (rounds, Ok u) = c.Pressed rounds
press_of (rounds, Err r) = c.PressRefused (number_of r) rounds
