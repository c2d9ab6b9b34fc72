-- The picture is the area of its own sides.
use Rattle.route.proofs.predict_plain.Goals as goal

pub returns : goal.returns
returns g c = c.predict.ensures
