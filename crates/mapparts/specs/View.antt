-- What the file's readers give and what the writer leaves, in the values of the rules, and the number that C gets of a length.
use Rattle.std.specs.Prelude as Prelude
use Rattle.std.specs.Prelude.{Ok, Err, ℕ, ◌+◌, ◌*◌, ◌≡◌, List, [], ◌∷◌, ◌++◌, leb, length, take, drop, OnErr}
use Rattle.std.proofs.Math.Option.{Option}
use Rattle.rules.specs.Basics.{Result, accept, refuse, ◌>>=◌, unless}
use Rattle.rules.specs.Values.{Event, Repeat}
use Rattle.rules.specs.Numbers.{number, bytes_of}
use Rattle.rules.specs.MapFile.{Reader, then_read, give, up_to, optional_mark, repeat_by, event_by}
use Rattle.keyvalues.specs.View.{number_of, told}
use Rattle.keyvalues.specs.declared.refusal.Refusal.{Refusal}
use Rattle.keyvalues.specs.declared.refusal.Refusal.TheVariants.{Malformed}
use Rattle.mapparts.specs.declared.writer.Writer.{Writer}

-- a call reads as the rules' reader does, from the bytes before it to those after it, where f says what its value means
abbrev pub Reads : {A B : Type 0} → (A → B) → Reader B → List ℕ → Prelude.Result A Refusal → List ℕ → Type 0
Reads f read before result after = told (λ a. (f a, after)) result ≡ read before

-- ---- parts of the rules' readers, under a name

abbrev pub read_mark : Reader (Option ℕ)
read_mark = λ bs. then_read (number bs) (λ n. give (optional_mark n))

abbrev pub read_repeat : Reader Repeat
read_repeat = λ bs. then_read (up_to 2 bs) repeat_by

abbrev pub read_event : Reader Event
read_event = λ bs. then_read (up_to 3 bs) event_by

-- ---- writing

-- the bytes in the place of those that stood there
unfoldable pub laid : ℕ → List ℕ → List ℕ → List ℕ
laid at bs out = take at out ++ bs ++ drop (at + length bs) out

-- how far an output is written, and its bytes
abbrev pub Page : Type 0
Page = ℕ × List ℕ

-- bytes at the place: 10 they do not fit
unfoldable pub placed : List ℕ → Page → Result Page
placed bs p = unless (leb (p.0 + length bs) (length p.1)) 10 (accept (p.0 + length bs, laid p.0 bs p.1))

-- numbers one behind another
unfoldable pub put_all : List ℕ → Page → Result Page
put_all [] p = accept p
put_all (n ∷ ns) p = placed (bytes_of n) p >>= put_all ns

abbrev pub page_of : Writer → Page
page_of w = (w.at, w.bytes.now)

-- a call goes from page to page as `put` does, in the bytes that were lent, which stay as many
abbrev pub Writes : (Page → Result Page) → Writer → Prelude.Result (Unit {0}) Refusal → Writer → Type 0
Writes put before result after = (after.bytes.ghost_name ≡ before.bytes.ghost_name) × (length after.bytes.now ≡ length before.bytes.now) × (told (λ _. page_of after) result ≡ put (page_of before))

-- refused, nothing is written
abbrev pub Stays : Writer → Prelude.Result (Unit {0}) Refusal → Writer → Type 0
Stays before result after = OnErr result ((after.at ≡ before.at) × (after.bytes.now ≡ before.bytes.now))

-- ---- keys

-- all of them were read, or there was a bad one
abbrev pub Checked : Prelude.Result (Unit {0}) Refusal → Result (List ℕ) → Type 0
Checked (Ok x) r = (ks : List ℕ) × (r ≡ accept ks)
Checked (Err e) r = (e ≡ Malformed) × (r ≡ refuse 9)

-- ---- what C gets

-- the number of a length or of a refusal: length × 32 + refusal
abbrev pub length_code : Prelude.Result ℕ Refusal → ℕ
length_code (Ok n) = n * 32
length_code (Err r) = number_of r
