-- What the inner functions go by: a test of the bytes of a word, by numbers alone. Assumes nothing.
use Rattle.std.specs.Prelude.{ℕ, zero, suc, ◌+◌, ◌*◌, ◌%◌, ◌^◌, Bool, true, not, ◌&&◌, ◌||◌, leb, ltb, eqb}

-- A byte and the bytes after it are the number r, in which the byte counts unit times. Either r is 0, or the byte is 32..126 and, where `up`,
-- not a..z. With low 1 a byte that only zeros follow isn't 32: r is above 32 * unit where the byte is above 32 or another byte follows.
unfoldable pub stored_byte : ℕ → Bool → ℕ → ℕ → Bool
stored_byte low up r unit = eqb r 0 || ((leb (32 * unit + low) r && ltb r (127 * unit)) && not (up && (leb (97 * unit) r && ltb r (123 * unit))))

-- each of the n bytes of r passes
unfoldable pub stored_text : ℕ → Bool → ℕ → ℕ → Bool
stored_text low up zero r = true
stored_text low up (suc n) r = stored_byte low up r (256 ^ n) && stored_text low up n (r % 256 ^ n)
