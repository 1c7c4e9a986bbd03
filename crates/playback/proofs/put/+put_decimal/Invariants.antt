-- Each call leaves a digit fewer to put.
use Rattle.playback.proofs.put.+put_decimal.Given as goal

abbrev pub decreases-put_decimal : goal.decreases-put_decimal
decreases-put_decimal l = l.most
