-- The loop over the keys that are left comes to what the whole loop comes to, and the stack has room for them.
use Rattle.std.proofs.Common.{◌≡◌, ◌-◌}
use Rattle.rules.specs.KeyLoop.{input_key, loop}
use Rattle.keytables.specs.View.{tables_of}
use Rattle.keypairs.specs.View.{live_of}
use Rattle.keyloop.specs.Stack.{keys_of}
use Rattle.keyloop.specs.View.{navigator_of}
use Rattle.keyloop.proofs.Weighed.{Light}
use Rattle.keyloop.proofs.key.input_key_or_scratch.Given as goal

abbrev pub invariant-loop-rounds : goal.invariant-loop-rounds
invariant-loop-rounds l = record {
  light : Light (tables_of l.map.tables.now) (keys_of l.stack) (live_of (tables_of l.map.tables.now) l.live);
  same : loop (navigator_of l.map) (l.budget - l.rounds) l.rounds (keys_of l.stack) (live_of (tables_of l.map.tables.now) l.live)
      ≡ input_key (navigator_of l.map) (record { key = l.first; budget = l.budget }) (live_of (tables_of l.map.tables.now) l.initial.live);
}
