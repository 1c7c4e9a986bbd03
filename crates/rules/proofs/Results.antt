-- What is always so of a result: if it is accepted, of the value, and if it is refused, of the number. So of a push, which is
-- refused with 6 or 5 alone, and of the event hook, which is refused with 12 alone: accepted, both leave the tables, the entered
-- mode and the trail as they were. A push remembers no pair but its own, so what holds of it and of all remembered ones holds of
-- these behind it.
use Rattle.std.specs.Prelude.{if◌then◌else◌}
use Prim.Native.Nat.{ℕ}
use mathlib.Core.Bool.{Bool, true, false}
use mathlib.Core.Option.{Option, none, some}
use mathlib.Core.List.{List, [], ◌∷◌}
use lib.Dec.{T, ltb}
use lib.ListN.{length, get_or}
use Rattle.rules.specs.Basics.{Result, accept, refuse, ◌>>=◌, unless}
use Rattle.rules.specs.Values.{most_queued, most_tracked, Event, Key, Class, Any, Fallthrough, Step, Context, counted, hook, Pair}
use Rattle.rules.specs.Tables.{Status, Atom, Break, Ignore, Restart, Track, status_of, Rule, matches, Tables}
use Rattle.rules.specs.KeyLoop.{Tracker, no_tracker, track, Shared, apply_rule, apply_rules, push, push_all, give_all, run_hook, InputResult, Again, ClearTrail, Consumed, NeedMore, Unmapped, RunStep, RetryAfter}
use Rattle.rules.proofs.Weights.{Each, each_append, each_any, each_at, each_set}

pub data Always {A : Type 0} (N : ℕ → Bool) (X : A → Type 0) : Result A → Type 0 where
  accepts : {a : A} → X a → Always N X (accept a)
  refuses : (n : ℕ) → T (N n) → Always N X (refuse n)

abbrev pub Whatever : {A : Type 0} → A → Type 0
Whatever a = Unit {0}

-- what holds of an accepted value
pub value : {A : Type 0} {N : ℕ → Bool} {X : A → Type 0} {a : A} → Always N X (accept a) → X a
value (accepts h) = h

pub always_bind : {A B : Type 0} {N : ℕ → Bool} {X : A → Type 0} {Y : B → Type 0} {r : Result A} {f : A → Result B}
    → Always N X r → ((a : A) → X a → Always N Y (f a)) → Always N Y (r >>= f)
always_bind (accepts {a = a} h) k = k a h
always_bind (refuses n o) k = refuses n o

pub always_more : {A : Type 0} {N : ℕ → Bool} {X Y : A → Type 0} {r : Result A} → ((a : A) → X a → Y a) → Always N X r → Always N Y r
always_more k (accepts {a = a} h) = accepts (k a h)
always_more k (refuses n o) = refuses n o

-- where a test decides, what is accepted may count on it
pub unless_so : {A : Type 0} {N : ℕ → Bool} {X : A → Type 0} (b : Bool) (n : ℕ) {r : Result A} → T (N n) → (T b → Always N X r) → Always N X (unless b n r)
unless_so true n o h = h tt
unless_so false n o h = refuses n o

pub always_unless : {A : Type 0} {N : ℕ → Bool} {X : A → Type 0} (b : Bool) (n : ℕ) {r : Result A} → T (N n) → Always N X r → Always N X (unless b n r)
always_unless b n o h = unless_so b n o (λ _. h)

pub if_so : {A : Type 0} {N : ℕ → Bool} {X : A → Type 0} (b : Bool) {r s : Result A} → (T b → Always N X r) → Always N X s → Always N X (if b then r else s)
if_so true h k = h tt
if_so false h k = k

pub always_if : {A : Type 0} {N : ℕ → Bool} {X : A → Type 0} (b : Bool) {r s : Result A} → Always N X r → Always N X s → Always N X (if b then r else s)
always_if b h k = if_so b (λ _. h) k

-- ---- pushes

-- G holds of each pair that a sequence remembers
abbrev pub Remembers : (Pair → Type 0) → Tracker → Type 0
Remembers G t = Each G t.pairs

module _ {N : ℕ → Bool} (six : T (N 6)) (G : Pair → Type 0) (p : Pair) (g : G p) where
  track_always : (s : Status) (t : Tracker) → Remembers G t → Always N (Remembers G) (track s p t)
  unfolding track
  track_always Atom t h = accepts (g, tt)
  track_always Break t h = accepts h
  track_always Ignore t h = accepts h
  track_always Restart t h = accepts (g, tt)
  track_always Track t h =
      always_if t.broken (accepts (g, tt)) (always_unless (ltb (length t.pairs) most_tracked) 6 six (accepts (each_append G t.pairs (p ∷ []) h (g, tt))))

  rule_always : (mode : ℕ) (r : Rule) (ts : List Tracker) → Each (Remembers G) ts → Always N (Each (Remembers G)) (apply_rule mode p r ts)
  unfolding apply_rule no_tracker
  rule_always mode r ts h =
      always_if (matches r mode p.action)
      (always_bind (track_always (status_of r.status) (get_or ts r.sequence no_tracker) (each_at (Remembers G) ts r.sequence tt h)) (λ t k. accepts (each_set (Remembers G) ts r.sequence k h)))
      (accepts h)

  pub rules_always : (rs : List Rule) (mode : ℕ) (ts : List Tracker) → Each (Remembers G) ts → Always N (Each (Remembers G)) (apply_rules rs mode p ts)
  unfolding apply_rules
  rules_always [] mode ts h = accepts h
  rules_always (r ∷ rs) mode ts h = always_bind (rule_always mode r ts h) (λ ts₁ k. rules_always rs mode ts₁ k)

-- what each push of a context keeps, all keep
module _ {N : ℕ → Bool} (Y : Shared → Type 0) (x : Context) (pushes : (a : ℕ) (c : Shared) → Y c → Always N Y (push (record { action = a; context = x }) c)) where
  pub push_all_keeps : (acts : List ℕ) (c : Shared) → Y c → Always N Y (push_all acts x c)
  unfolding push_all
  push_all_keeps [] c h = accepts h
  push_all_keeps (a ∷ rest) c h = always_bind (pushes a c h) (λ c₁ k. push_all_keeps rest c₁ k)

-- of what a push and the event hook leave as it was
abbrev pub Kept : (Tables → ℕ → List ℕ → Type 0) → Shared → Type 0
Kept X c = X c.tables c.mode c.trail

module _ {N : ℕ → Bool} (six : T (N 6)) (five : T (N 5)) (X : Tables → ℕ → List ℕ → Type 0) where
  push_keeps : (p : Pair) (c : Shared) → Kept X c → Always N (Kept X) (push p c)
  unfolding push
  push_keeps p c h =
      always_bind (rules_always six Whatever p tt c.tables.rules c.mode c.sequences (each_any (λ t. each_any (λ q. tt) t.pairs) c.sequences))
      (λ ts _. always_unless (ltb (length c.queue) most_queued) 5 five (accepts h))

  pub give_all_keeps : (acts : List ℕ) (c : Shared) → Kept X c → Always N (Kept X) (give_all acts c)
  unfolding give_all
  give_all_keeps acts c h = push_all_keeps (Kept X) c.context (λ a. push_keeps (record { action = a; context = c.context })) acts _ h

-- ---- the event hook

module _ {N : ℕ → Bool} (twelve : T (N 12)) where
  hook_always : (e : Event) (k : ℕ) (x : Context) → Always N Whatever (hook e k x)
  unfolding hook counted
  hook_always (Key a) k x = accepts tt
  hook_always (Class a) k x = always_if _ (always_unless _ 12 twelve (accepts tt)) (accepts tt)
  hook_always Any k x = accepts tt
  hook_always Fallthrough k x = accepts tt

  pub hook_keeps : (X : Tables → ℕ → List ℕ → Type 0) (o : Option Event) (k : ℕ) (c : Shared) → Kept X c → Always N (Kept X) (run_hook o k c)
  unfolding run_hook
  hook_keeps X none k c h = accepts h
  hook_keeps X (some e) k c h = always_bind (hook_always e k c.context) (λ x _. accepts h)

-- ---- a round's step

-- S holds of the step that a round comes to, if any
abbrev pub Runs : (Step → Type 0) → InputResult → Type 0
Runs S Again = Unit {0}
Runs S ClearTrail = Unit {0}
Runs S Consumed = Unit {0}
Runs S NeedMore = Unit {0}
Runs S Unmapped = Unit {0}
Runs S (RunStep s) = S s
Runs S (RetryAfter s) = S s

pub each_runs : {S : Step → Type 0} → ((s : Step) → S s) → (x : InputResult) → Runs S x
each_runs h Again = tt
each_runs h ClearTrail = tt
each_runs h Consumed = tt
each_runs h NeedMore = tt
each_runs h Unmapped = tt
each_runs h (RunStep s) = h s
each_runs h (RetryAfter s) = h s
