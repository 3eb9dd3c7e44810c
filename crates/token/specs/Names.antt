-- 01: the words that are no names.
use Rattle.std.specs.Prelude.{ℕ, Bool, true, false, List, [], ◌∷◌}
use Prim.Native.String.{String}
use Rattle.std.proofs.Math.Option.{Option, none, some}
use Rattle.text.specs.Words.{is_one_of}
use Rattle.token.specs.Token.{Kind, name, number, quoted, mark}

-- `_`, and the strict and reserved keywords of edition 2021 in the Rust Reference
abbrev pub keywords : List String
keywords =
    "_" ∷ "as" ∷ "break" ∷ "const" ∷ "continue" ∷ "crate" ∷ "else" ∷ "enum" ∷ "extern" ∷ "false" ∷ "fn" ∷ "for" ∷ "if" ∷ "impl"
    ∷ "in" ∷ "let" ∷ "loop" ∷ "match" ∷ "mod" ∷ "move" ∷ "mut" ∷ "pub" ∷ "ref" ∷ "return" ∷ "self" ∷ "Self" ∷ "static" ∷ "struct"
    ∷ "super" ∷ "trait" ∷ "true" ∷ "type" ∷ "unsafe" ∷ "use" ∷ "where" ∷ "while" ∷ "async" ∷ "await" ∷ "dyn" ∷ "abstract"
    ∷ "become" ∷ "box" ∷ "do" ∷ "final" ∷ "macro" ∷ "override" ∷ "priv" ∷ "typeof" ∷ "unsized" ∷ "virtual" ∷ "yield" ∷ "try" ∷ []

unfoldable pub is_keyword : List ℕ → Bool
is_keyword w = is_one_of keywords w

-- the bytes of a name or a keyword
abbrev pub word_of : Kind → Option (List ℕ)
word_of (name w) = some w
word_of (number w) = none
word_of (quoted n) = none
word_of (mark b) = none

abbrev pub unless : Bool → List ℕ → Option (List ℕ)
unless true w = none
unless false w = some w

-- the bytes of a name that is no keyword
abbrev pub name_of : Kind → Option (List ℕ)
name_of (name w) = unless (is_keyword w) w
name_of (number w) = none
name_of (quoted n) = none
name_of (mark b) = none

-- the length of a string's contents
abbrev pub quote_of : Kind → Option ℕ
quote_of (name w) = none
quote_of (number w) = none
quote_of (quoted n) = some n
quote_of (mark b) = none
