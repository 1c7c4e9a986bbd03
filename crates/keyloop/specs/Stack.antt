-- The keys on the stack, the next one first, and the room for more.
use Rattle.std.specs.Prelude.{ℕ, ◌+◌, ◌/◌, ◌≤◌, List, drop, length, min}
use Rattle.keyloop.specs.declared.stack.Stack.{Stack}

unfoldable pub keys_of : Stack → List ℕ
keys_of s = drop s.top s.keys

-- on a stack of these keys there is room for the one or two keys that a key comes to, and for a trail
abbrev pub Room : ℕ → List ℕ → List ℕ → Type 0
Room key ks trail = (1 + min 1 (key / 32768) + length ks ≤ 129) × (length trail + length ks ≤ 129)
