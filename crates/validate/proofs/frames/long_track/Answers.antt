-- `validate::frames::long_track` meets its contract: no sheet holds more frames than it keeps times.
use Rattle.validate.proofs.FrameLaws as frames
use Rattle.validate.proofs.frames.long_track.Goals as goal

pub returns-then-count-gt7281 : goal.returns-then-count-gt7281
returns-then-count-gt7281 c = λ m rest. frames.too_many _ c.requires c.if-count-gt7281.true c.lost.ensures rest
