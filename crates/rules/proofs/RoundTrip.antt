-- Document 02, request (i): a written file, when it is read, gives a machine with equal tables and bindings, and what was read is
-- written as the same bytes. Why: the reader accepts exactly the bytes that the writer writes (FileFormats), and a machine's
-- bindings are what its kept calls make of a fresh machine with its tables (Kept).
use Prim.Native.Nat.{ℕ, ◌*◌, ◌≤◌, ◌<◌}
use mathlib.Core.Path.{◌≡◌, sym, ap, ap₂, ◌∙◌, subst}
use mathlib.Core.List.{List, ◌++◌, append-nil, map}
use lib.Dec.{T}
use lib.ListN.{length, drop, replicate}
use borrow.Author.Tests.{le-leb, lt-leb}
use Rattle.rules.specs.Basics.{accept}
use Rattle.rules.specs.Tables.{Tables, tables_valid}
use Rattle.rules.specs.KeyLoop.{fresh_shared}
use Rattle.rules.specs.Calls.{Kind, Machine, graph_kind, fresh, Call, leaves}
use Rattle.rules.specs.MapFile.{read_map}
use Rattle.rules.specs.Run.{code_of, output_of}
use Rattle.rules.specs.Writing.{map_numbers, in_bytes, write_map, written, file_of, write_call}
use Rattle.rules.proofs.Numbers.{Bytes}
use Rattle.rules.proofs.Reached.{leaves_append}
use Rattle.rules.proofs.Kept.{bind_all_kept, Replays, fresh_replays, leaves_replays, call_by, bound_by_calls}
use Rattle.rules.proofs.Formats.{small}
use Rattle.rules.proofs.FileFormats.{Makes, reads_file, found}

-- the numbers of a machine's file
abbrev pub numbers_of : Machine graph_kind → List ℕ
numbers_of s = map_numbers s.state.shared.tables s.kept

-- the machine that its file is to give: its own bindings and kept calls, in the fresh state with its own tables
abbrev pub as_read : Machine graph_kind → Machine graph_kind
as_read s = record { bindings = s.bindings; kept = s.kept; state = (fresh graph_kind s.state.shared.tables).state }

-- a machine whose kept calls make its bindings
read_of_kept : (s : Machine graph_kind) → Replays graph_kind s → T (small (numbers_of s)) → read_map (file_of graph_kind s) ≡ accept (as_read s)
unfolding file_of
read_of_kept s h fits = reads_file _ _ _ (record { valid = h.valid; made = h.made }) fits

-- The one round trip. Whatever calls were made from fresh: if the numbers of the file are of 16 bits, reading what the machine
-- writes gives its tables, its graph and its kept calls, in the fresh state
pub read_of_written : (t : Tables) → T (tables_valid t) → (cs : List Call) → let s : Machine graph_kind = leaves graph_kind (fresh graph_kind t) cs in
    T (small (numbers_of s)) → read_map (file_of graph_kind s) ≡ accept (as_read s)
read_of_written t valid cs fits = read_of_kept _ (leaves_replays graph_kind (fresh graph_kind t) cs (fresh_replays graph_kind t valid)) fits

-- what was read is made by its own tables and kept calls, and those are what the bytes have
of_read : (bs : List ℕ) → Bytes bs → (s : Machine graph_kind) → read_map bs ≡ accept s → Makes (s.state.shared.tables, s.kept) s × (file_of graph_kind s ≡ bs)
unfolding file_of write_map fresh fresh_shared
of_read bs h s e =
    let m = found bs s h e in
    let k = bind_all_kept graph_kind m.from.1 (fresh graph_kind m.from.0) s m.stands.made in
    subst (λ f. Makes f s × (in_bytes (map_numbers f.0 f.1) ≡ bs)) (sym (ap₂ (λ t xs. (t, xs)) (ap (λ m. m.shared.tables) k.1) k.0)) (m.stands, sym (m.same ∙ append-nil _))

-- The other. Whatever bytes reading accepts, writing what was read gives them
pub written_of_read : (bs : List ℕ) → Bytes bs → (s : Machine graph_kind) → read_map bs ≡ accept s → file_of graph_kind s ≡ bs
written_of_read bs h s e = (of_read bs h s e).1

pub made_of_read : (bs : List ℕ) → Bytes bs → (s : Machine graph_kind) → read_map bs ≡ accept s → Makes (s.state.shared.tables, s.kept) s
made_of_read bs h s e = (of_read bs h s e).0

-- the first also holds of a map that was read and then changed by any calls
pub read_of_changed : (bs : List ℕ) → Bytes bs → (s₀ : Machine graph_kind) → read_map bs ≡ accept s₀ → (cs : List Call) → let s : Machine graph_kind = leaves graph_kind s₀ cs in
    T (small (numbers_of s)) → read_map (file_of graph_kind s) ≡ accept (as_read s)
read_of_changed bs h s₀ e cs fits =
    let m = made_of_read bs h s₀ e in
    let f = fresh graph_kind s₀.state.shared.tables in
    let r = leaves_replays graph_kind f (map call_by s₀.kept) (fresh_replays graph_kind s₀.state.shared.tables m.valid) in
    read_of_kept _ (leaves_replays graph_kind s₀ cs (subst (Replays graph_kind) (bound_by_calls graph_kind s₀.kept f s₀ m.made) r)) fits

-- A map that was read and then changed by any calls is what calls lead to from fresh: those that bind what it keeps, and then these.
-- So what `Facts` and `Hint` say of every list of calls from the fresh machine holds of it
pub read_by_calls : (bs : List ℕ) → Bytes bs → (s : Machine graph_kind) → read_map bs ≡ accept s
    → (cs : List Call) → leaves graph_kind (fresh graph_kind s.state.shared.tables) (map call_by s.kept ++ cs) ≡ leaves graph_kind s cs
read_by_calls bs h s e cs =
    let f = fresh graph_kind s.state.shared.tables in
    leaves_append graph_kind f (map call_by s.kept) cs ∙ ap (λ u. leaves graph_kind u cs) (bound_by_calls graph_kind s.kept f s (made_of_read bs h s e).made)

-- ---- the output

module _ (𝓚 : Kind) (s : Machine 𝓚) (lent : List ℕ) where
  -- an output that is long enough, however long, gets the whole file, and what lies past it stays
  pub sent_whole : length (file_of 𝓚 s) ≤ length lent → write_call 𝓚 s lent ≡ (length (file_of 𝓚 s) * 32, file_of 𝓚 s ++ drop (length (file_of 𝓚 s)) lent)
  unfolding file_of written code_of output_of
  sent_whole h = rw (le-leb (length (file_of 𝓚 s)) (length lent) h)

  -- one that is too short is 10, and gets zeros
  pub sent_short : length lent < length (file_of 𝓚 s) → write_call 𝓚 s lent ≡ (10, replicate (length lent) 0)
  unfolding file_of written code_of output_of
  sent_short h = rw (lt-leb (length (file_of 𝓚 s)) (length lent) h)
