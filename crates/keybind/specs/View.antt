-- What a map means beside the kept calls' words.
use Rattle.std.specs.Prelude.{ℕ, List}
use Rattle.rules.specs.KeyLoop.{State}
use Rattle.rules.specs.Calls.{Machine, graph_kind}
use Rattle.keyparts.specs.View.{graph_of}
use Rattle.keptcalls.specs.View.{kept_in, machine_with}
use Rattle.keptcalls.specs.declared.words.CallWords.{CallWords}
use Rattle.keybind.specs.declared.map.Map.{Map}

-- a map with the kept calls and a state
abbrev pub map_kept : List CallWords → Map → State ℕ → Machine graph_kind
map_kept ws m x = machine_with (graph_of m.graph) (kept_in m.kept ws) x
