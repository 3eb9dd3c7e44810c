-- presets.rs: the names of presets.
use Rattle.std.specs.Prelude.{ℕ, Bool, List, [], ◌∷◌}
use Prim.Native.String.{String}
use Rattle.text.specs.Words.{is_one_of}

-- the names in is_known_preset
abbrev pub presets : List String
presets =
    "fade_in" ∷ "fade_out" ∷ "slide_in" ∷ "slide_out" ∷ "scale_in" ∷ "scale_out" ∷ "bounce_in" ∷ "bounce_out" ∷ "modal_enter"
    ∷ "modal_exit" ∷ "drawer_open" ∷ "drawer_close" ∷ "toast_enter" ∷ "toast_exit" ∷ "page_enter" ∷ "page_exit"
    ∷ "stagger_children" ∷ "loading_pulse" ∷ "loading_wave" ∷ "shake" ∷ "wiggle" ∷ "heartbeat" ∷ "float" ∷ "shimmer" ∷ []

-- is_known_preset
unfoldable pub is_preset : List ℕ → Bool
is_preset w = is_one_of presets w
