-- Breaking all sequences and entering mode 0 is `reset_mode`; the trail is not touched.
use Rattle.std.proofs.Common.{◌≡◌, ap, ◌∙◌, List, map}
use Rattle.std.proofs.lemmas.Result.{err_from_is_err_and}
use Rattle.rules.specs.KeyLoop.{Tracker, with_sequences, goto_mode, reset_mode}
use Rattle.rules.specs.Tables.{Tables}
use Rattle.rules.specs.Calls.{graph_navigator}
use Rattle.keytables.specs.View.{tables_of}
use Rattle.keypairs.specs.declared.live.Live.{Live}
use Rattle.keypairs.specs.View.{machine_by, shared_of, trackers_of, broke}
use Rattle.keymachine.proofs.Calls.{reset_refused, reset_done}
use Rattle.keymachine.proofs.live.reset_mode.Goals as goal

-- a live state whose sequences are broken and that is else the same
broken : (t : Tables) (l l' : Live) → l' ≡ record { queue = l.queue; sequences = l'.sequences; trail = l.trail; state = l.state } → trackers_of l'.sequences ≡ map broke (trackers_of l.sequences)
    → shared_of t l' ≡ with_sequences (map broke (trackers_of l.sequences)) (shared_of t l)
broken t l l' e b = ap (shared_of t) e ∙ ap (λ (ts : List Tracker). with_sequences ts (shared_of t l)) b

pub returns-in_err-goto_mode_or_scratch : goal.returns-in_err-goto_mode_or_scratch
unfolding reset_mode
returns-in_err-goto_mode_or_scratch c g ks = let a = c.args in let t = tables_of a.tables.now in let b = c.break_all in
    let p = err_from_is_err_and c.from_residual.result c.from_residual.ensures.1 in
    rw (p.1, p.2) (reset_refused (machine_by g ks t a.live.now) _ (c.in_err-goto_mode_or_scratch.ensures g ∙ ap (goto_mode (graph_navigator g) 0) (broken t a.live.now b.new.self b.ensures.rest b.ensures.broken)))

pub returns : goal.returns
unfolding reset_mode
returns c g ks = let a = c.args in let t = tables_of a.tables.now in let b = c.break_all in
    reset_done (machine_by g ks t a.live.now) _ (c.in_ok-goto_mode_or_scratch.ensures g ∙ ap (goto_mode (graph_navigator g) 0) (broken t a.live.now b.new.self b.ensures.rest b.ensures.broken))
