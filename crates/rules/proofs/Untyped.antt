-- Document 02, request (vii): whatever calls were made, a count that was not typed is 0. Why it is so: it is 0 at first; the
-- count step types; `take`, Any and a step's mark keep count and typed; and merge uses a count only if it was typed, and then
-- types. So Contexts has it of every context. (Overrides may be any contexts.)
use Prim.Native.Nat.{ℕ}
use mathlib.Core.Path.{◌≡◌, refl}
use mathlib.Core.Bool.{Bool, true, false, ◌||◌, true≢false}
use mathlib.Core.List.{List}
use Rattle.std.specs.Prelude.{if◌then◌else◌}
use Rattle.rules.specs.Values.{Event, Key, Class, Any, Fallthrough, Context, no_context, counted, hook, merge, Pair}
use Rattle.rules.specs.Tables.{Tables}
use Rattle.rules.specs.Calls.{Kind, Call, Pop, Popped, fresh, call, leaves}
use Rattle.rules.proofs.Results.{Always, accepts, always_unless, always_if}
use Rattle.rules.proofs.Reached.{any_number}
use Rattle.rules.proofs.Counts.{UntypedIs0}
use Rattle.rules.proofs.Contexts.{Throughout, leaves_holds, popped_holds}

hook_untyped : (e : Event) (k : ℕ) (x : Context) → UntypedIs0 x → Always any_number UntypedIs0 (hook e k x)
unfolding hook counted
hook_untyped (Key a) k x h = accepts h
hook_untyped (Class a) k x h = always_if _ (always_unless _ 12 tt (accepts (λ e. absurd (true≢false e)))) (accepts h)
hook_untyped Any k x h = accepts h
hook_untyped Fallthrough k x h = accepts h

merge_untyped : (x over : Context) → UntypedIs0 x → UntypedIs0 (merge x over)
unfolding merge
merge_untyped x over h = go x.typed over.typed h
  where
    go : (a b : Bool) → (a ≡ false → x.count ≡ 0) → (a || b) ≡ false → (if b then over.count else x.count) ≡ 0
    go true b h e = absurd (true≢false e)
    go false true h e = absurd (true≢false e)
    go false false h e = h refl

module _ (𝓚 : Kind) (t : Tables) (cs : List Call) where
  -- whatever calls were made from the fresh machine: in the context, in each waiting pair and in each remembered one
  pub all_untyped_are_0 : Throughout UntypedIs0 (leaves 𝓚 (fresh 𝓚 t) cs).state.shared
  unfolding no_context
  all_untyped_are_0 = leaves_holds UntypedIs0 (λ _. refl) hook_untyped (λ mark x h. h) merge_untyped 𝓚 t cs

  -- and in a pair that is popped then
  pub popped_untyped_is_0 : (p : Pair) → (call 𝓚 (leaves 𝓚 (fresh 𝓚 t) cs) Pop).1 ≡ Popped p → UntypedIs0 p.context
  unfolding no_context
  popped_untyped_is_0 = popped_holds UntypedIs0 (λ _. refl) hook_untyped (λ mark x h. h) merge_untyped 𝓚 t cs
