use Rattle.back_spelling.proofs.PieceWriter.+put_whole.Given as goal

abbrev pub decreases-put_whole : goal.decreases-put_whole
decreases-put_whole l = l.n
