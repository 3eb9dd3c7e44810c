-- 01, "Text rules": the limits of a text and of a number in it.
use Rattle.std.specs.Prelude.{ℕ}

-- "At most 16,384 bytes"
abbrev pub text_limit : ℕ
text_limit = 16384

-- 02 (n): "up to 40 digits before and 40 after the point"
abbrev pub whole_limit : ℕ
whole_limit = 40

abbrev pub places_limit : ℕ
places_limit = 40

-- "an `e` or `E`, a sign or none, and one or two digits"
abbrev pub power_limit : ℕ
power_limit = 2
