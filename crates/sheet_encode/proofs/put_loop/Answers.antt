-- `sheet_encode::put_loop` meets its contract.
use Rattle.sheet_encode.proofs.put_loop.Goals as goal

pub returns-in-Times : goal.returns-in-Times
returns-in-Times c = rw c.in-Times.is c.put_case_word.ensures

pub returns-in-PingPongTimes : goal.returns-in-PingPongTimes
returns-in-PingPongTimes c = rw c.in-PingPongTimes.is c.put_case_word-in-PingPongTimes.ensures
