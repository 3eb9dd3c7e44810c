-- Made by tools/words.py. The lists of the grammar's words and of the names that checking knows.
use Rattle.std.specs.Prelude.{ℕ, List, [], ◌∷◌, slice_index_or}
use Rattle.text.specs.Words.{words}
use Rattle.words.specs.declared.List.{List as WordList}
use Rattle.words.specs.declared.List.TheVariants as list

unfoldable pub list_of : WordList → List (List ℕ)
list_of list.Nodes =
    words ("tween" ∷ "spring" ∷ "keyframes" ∷ "path" ∷ "morph" ∷ "draw" ∷ "color" ∷ "waveform" ∷ "preset"
    ∷ "label" ∷ "at" ∷ "sequence" ∷ "parallel" ∷ "group" ∷ "stagger" ∷ [])
list_of list.TweenRows =
    words ("duration" ∷ "easing" ∷ "delay" ∷ "time_scale" ∷ "loop" ∷ "snap" ∷ "round" ∷ "reverse" ∷ [])
list_of list.SpringRows =
    words ("preset" ∷ "stiffness" ∷ "damping" ∷ "mass" ∷ "velocity" ∷ "epsilon" ∷ "integrator"
    ∷ "critically_damped" ∷ "overdamped" ∷ "underdamped" ∷ [])
list_of list.WaveformRows =
    words ("frequency" ∷ "amplitude" ∷ "phase" ∷ "duty_cycle" ∷ "seed" ∷ "smoothness" ∷ "duration" ∷ [])
list_of list.DrawRows =
    words ("duration" ∷ "easing" ∷ [])
list_of list.MorphRows =
    words ("samples" ∷ "duration" ∷ "easing" ∷ [])
list_of list.ColorRows =
    words ("duration" ∷ "space" ∷ "easing" ∷ [])
list_of list.PathRows =
    words ("duration" ∷ "easing" ∷ "auto_rotate" ∷ "offset" ∷ "loop" ∷ [])
list_of list.RoughFields =
    words ("strength" ∷ "points" ∷ [])
list_of list.SlowMoFields =
    words ("linear_ratio" ∷ "power" ∷ [])
list_of list.GridFields =
    words ("cols" ∷ "rows" ∷ "origin" ∷ [])
list_of list.RandomFields =
    words ("seed" ∷ "min" ∷ "max" ∷ [])
list_of list.OpeningFields =
    words ("pattern" ∷ "delay" ∷ [])
list_of list.Curves =
    words ("cubic_bezier" ∷ "steps" ∷ "wiggle" ∷ "rough" ∷ "slowmo" ∷ [])
list_of list.LoopModes =
    words ("once" ∷ "forever" ∷ "ping_pong" ∷ "times" ∷ [])
list_of list.GroupModes =
    words ("sequence" ∷ "parallel" ∷ [])
list_of list.GridOrigins =
    words ("top_left" ∷ "top_right" ∷ "bottom_left" ∷ "bottom_right" ∷ "center" ∷ "top" ∷ "bottom" ∷ "left"
    ∷ "right" ∷ [])
list_of list.Patterns =
    words ("grid" ∷ "random" ∷ "center_out" ∷ "edges_in" ∷ [])
list_of list.Spaces =
    words ("linear" ∷ "lab" ∷ "oklch" ∷ [])
list_of list.Waveforms =
    words ("sine" ∷ "sawtooth" ∷ "square" ∷ "triangle" ∷ "noise" ∷ [])
list_of list.Along =
    words ("along" ∷ [])
list_of list.SpringPresets =
    words ("gentle" ∷ "wobbly" ∷ "stiff" ∷ "slow" ∷ "snappy" ∷ [])
list_of list.Integrators =
    words ("semi_implicit_euler" ∷ "rk4" ∷ [])
list_of list.Easings =
    words ("linear" ∷ "ease_in_quad" ∷ "ease_out_quad" ∷ "ease_in_out_quad" ∷ "ease_in_cubic" ∷ "ease_out_cubic"
    ∷ "ease_in_out_cubic" ∷ "ease_in_quart" ∷ "ease_out_quart" ∷ "ease_in_out_quart" ∷ "ease_in_quint"
    ∷ "ease_out_quint" ∷ "ease_in_out_quint" ∷ "ease_in_sine" ∷ "ease_out_sine" ∷ "ease_in_out_sine"
    ∷ "ease_in_expo" ∷ "ease_out_expo" ∷ "ease_in_out_expo" ∷ "ease_in_circ" ∷ "ease_out_circ"
    ∷ "ease_in_out_circ" ∷ "ease_in_back" ∷ "ease_out_back" ∷ "ease_in_out_back" ∷ "ease_in_elastic"
    ∷ "ease_out_elastic" ∷ "ease_in_out_elastic" ∷ "ease_in_bounce" ∷ "ease_out_bounce"
    ∷ "ease_in_out_bounce" ∷ [])
list_of list.Presets =
    words ("fade_in" ∷ "fade_out" ∷ "slide_in" ∷ "slide_out" ∷ "scale_in" ∷ "scale_out" ∷ "bounce_in"
    ∷ "bounce_out" ∷ "modal_enter" ∷ "modal_exit" ∷ "drawer_open" ∷ "drawer_close" ∷ "toast_enter"
    ∷ "toast_exit" ∷ "page_enter" ∷ "page_exit" ∷ "stagger_children" ∷ "loading_pulse" ∷ "loading_wave"
    ∷ "shake" ∷ "wiggle" ∷ "heartbeat" ∷ "float" ∷ "shimmer" ∷ [])
list_of list.Colors =
    words ("black" ∷ "white" ∷ "red" ∷ "green" ∷ "blue" ∷ "yellow" ∷ "cyan" ∷ "magenta" ∷ "gray" ∷ "grey"
    ∷ "orange" ∷ "purple" ∷ "pink" ∷ "brown" ∷ "lime" ∷ "teal" ∷ "navy" ∷ "maroon" ∷ "olive" ∷ "silver"
    ∷ "aqua" ∷ "fuchsia" ∷ [])
list_of list.CssColors =
    words ("aliceblue" ∷ "antiquewhite" ∷ "aqua" ∷ "aquamarine" ∷ "azure" ∷ "beige" ∷ "bisque" ∷ "black"
    ∷ "blanchedalmond" ∷ "blue" ∷ "blueviolet" ∷ "brown" ∷ "burlywood" ∷ "cadetblue" ∷ "chartreuse"
    ∷ "chocolate" ∷ "coral" ∷ "cornflowerblue" ∷ "cornsilk" ∷ "crimson" ∷ "cyan" ∷ "darkblue" ∷ "darkcyan"
    ∷ "darkgoldenrod" ∷ "darkgray" ∷ "darkgreen" ∷ "darkgrey" ∷ "darkkhaki" ∷ "darkmagenta"
    ∷ "darkolivegreen" ∷ "darkorange" ∷ "darkorchid" ∷ "darkred" ∷ "darksalmon" ∷ "darkseagreen"
    ∷ "darkslateblue" ∷ "darkslategray" ∷ "darkslategrey" ∷ "darkturquoise" ∷ "darkviolet" ∷ "deeppink"
    ∷ "deepskyblue" ∷ "dimgray" ∷ "dimgrey" ∷ "dodgerblue" ∷ "firebrick" ∷ "floralwhite" ∷ "forestgreen"
    ∷ "fuchsia" ∷ "gainsboro" ∷ "ghostwhite" ∷ "gold" ∷ "goldenrod" ∷ "gray" ∷ "green" ∷ "greenyellow"
    ∷ "grey" ∷ "honeydew" ∷ "hotpink" ∷ "indianred" ∷ "indigo" ∷ "ivory" ∷ "khaki" ∷ "lavender"
    ∷ "lavenderblush" ∷ "lawngreen" ∷ "lemonchiffon" ∷ "lightblue" ∷ "lightcoral" ∷ "lightcyan"
    ∷ "lightgoldenrodyellow" ∷ "lightgray" ∷ "lightgreen" ∷ "lightgrey" ∷ "lightpink" ∷ "lightsalmon"
    ∷ "lightseagreen" ∷ "lightskyblue" ∷ "lightslategray" ∷ "lightslategrey" ∷ "lightsteelblue"
    ∷ "lightyellow" ∷ "lime" ∷ "limegreen" ∷ "linen" ∷ "magenta" ∷ "maroon" ∷ "mediumaquamarine"
    ∷ "mediumblue" ∷ "mediumorchid" ∷ "mediumpurple" ∷ "mediumseagreen" ∷ "mediumslateblue"
    ∷ "mediumspringgreen" ∷ "mediumturquoise" ∷ "mediumvioletred" ∷ "midnightblue" ∷ "mintcream"
    ∷ "mistyrose" ∷ "moccasin" ∷ "navajowhite" ∷ "navy" ∷ "oldlace" ∷ "olive" ∷ "olivedrab" ∷ "orange"
    ∷ "orangered" ∷ "orchid" ∷ "palegoldenrod" ∷ "palegreen" ∷ "paleturquoise" ∷ "palevioletred"
    ∷ "papayawhip" ∷ "peachpuff" ∷ "peru" ∷ "pink" ∷ "plum" ∷ "powderblue" ∷ "purple" ∷ "rebeccapurple"
    ∷ "red" ∷ "rosybrown" ∷ "royalblue" ∷ "saddlebrown" ∷ "salmon" ∷ "sandybrown" ∷ "seagreen" ∷ "seashell"
    ∷ "sienna" ∷ "silver" ∷ "skyblue" ∷ "slateblue" ∷ "slategray" ∷ "slategrey" ∷ "snow" ∷ "springgreen"
    ∷ "steelblue" ∷ "tan" ∷ "teal" ∷ "thistle" ∷ "tomato" ∷ "turquoise" ∷ "violet" ∷ "wheat" ∷ "white"
    ∷ "whitesmoke" ∷ "yellow" ∷ "yellowgreen" ∷ [])
list_of list.Empty =
    words ([])

-- the lists in a row, each at its number
abbrev pub all_lists : List WordList
all_lists =
    list.Nodes ∷ list.TweenRows ∷ list.SpringRows ∷ list.WaveformRows ∷ list.DrawRows ∷ list.MorphRows
    ∷ list.ColorRows ∷ list.PathRows ∷ list.RoughFields ∷ list.SlowMoFields ∷ list.GridFields
    ∷ list.RandomFields ∷ list.OpeningFields ∷ list.Curves ∷ list.LoopModes ∷ list.GroupModes
    ∷ list.GridOrigins ∷ list.Patterns ∷ list.Spaces ∷ list.Waveforms ∷ list.Along ∷ list.SpringPresets
    ∷ list.Integrators ∷ list.Easings ∷ list.Presets ∷ list.Colors ∷ list.CssColors ∷ list.Empty ∷ []

-- the list with a number; above the lists' numbers the one without words
abbrev pub numbered : ℕ → WordList
numbered n = slice_index_or all_lists n list.Empty
