-- easing.rs: the names of easings, and parser.rs's to_snake_case.
use Rattle.std.specs.Prelude.{ℕ, Bool, cond, List, [], ◌∷◌, ◌++◌}
use Prim.Native.String.{String}
use Rattle.text.specs.Bytes.{is_upper, lower}
use Rattle.text.specs.Words.{is_one_of}

-- NAMED_EASINGS
abbrev pub named_easings : List String
named_easings =
    "linear" ∷ "ease_in_quad" ∷ "ease_out_quad" ∷ "ease_in_out_quad" ∷ "ease_in_cubic" ∷ "ease_out_cubic" ∷ "ease_in_out_cubic"
    ∷ "ease_in_quart" ∷ "ease_out_quart" ∷ "ease_in_out_quart" ∷ "ease_in_quint" ∷ "ease_out_quint" ∷ "ease_in_out_quint"
    ∷ "ease_in_sine" ∷ "ease_out_sine" ∷ "ease_in_out_sine" ∷ "ease_in_expo" ∷ "ease_out_expo" ∷ "ease_in_out_expo"
    ∷ "ease_in_circ" ∷ "ease_out_circ" ∷ "ease_in_out_circ" ∷ "ease_in_back" ∷ "ease_out_back" ∷ "ease_in_out_back"
    ∷ "ease_in_elastic" ∷ "ease_out_elastic" ∷ "ease_in_out_elastic" ∷ "ease_in_bounce" ∷ "ease_out_bounce" ∷ "ease_in_out_bounce"
    ∷ []

-- one turn of to_snake_case's loop behind the first byte: `_` before a capital, which becomes small
abbrev pub snake_byte : ℕ → List ℕ
snake_byte b = cond (is_upper b) (95 ∷ lower b ∷ []) (b ∷ [])

-- to_snake_case behind the first byte
unfoldable pub snake_rest : List ℕ → List ℕ
snake_rest [] = []
snake_rest (b ∷ bs) = snake_byte b ++ snake_rest bs

-- to_snake_case
unfoldable pub snake : List ℕ → List ℕ
snake [] = []
snake (b ∷ bs) = lower b ∷ snake_rest bs

-- named_variant, whether it gives some: of a name as it is written, or of one behind `Easing::`, which parser.rs puts into snake case
unfoldable pub is_easing : Bool → List ℕ → Bool
is_easing variant w = is_one_of named_easings (cond variant (snake w) w)
