-- What `new` says of a token reader: it stands at the start of the text.
use Prim.Native.Nat.{ℕ}
use mathlib.Core.List.{List}
use mathlib.Core.Path.{◌≡◌, sym, ap, ◌∙◌}
use denote.Ref.{Bor}
use Rattle.token.specs.Token.{tokens_from}
use Rattle.read_cursor.specs.Means.{nothing as unnoted, Ready, tokens, Begins}
use Rattle.read_tokens.specs.Reader.{readable}
use Rattle.read_tokens.specs.declared.TokenReader.{TokenReader}

-- what `new` says of the reader r over the text s
abbrev pub Fresh : Bor (List ℕ) → TokenReader → Type 0
Fresh s r = (r.text.now ≡ readable s.now) × Begins r.text.now 0 unnoted 0 r.cursor

pub fresh_ready : (s : Bor (List ℕ)) (r : TokenReader) → Fresh s r → Ready r.text.now r.cursor
fresh_ready s r e = e.1.ready

pub fresh-tokens : (s : Bor (List ℕ)) (r : TokenReader) → Fresh s r → tokens r.text.now r.cursor ≡ tokens_from (readable s.now) 0
fresh-tokens s r e = sym e.1.is ∙ ap (λ (x : List ℕ). tokens_from x 0) e.0
