-- Demand 3's premise, said once: margins and derived planes were made from the same unchanged picture, the one lent to the plain route, with the call's own sides, pad and stride, and stand as made. Assumes nothing.
use Rattle.std.specs.Prelude.{◌≡◌, List, ℕ, ◌<◌}
use Rattle.grid.specs.Block.{sample, drawn}
use Rattle.margins.specs.Margin.{interior, expanded}
use Rattle.planes.specs.Planes.{wide, padded_at, across_at, down_at, centre_at, padded_plane}

-- of a picture of w by ht samples, and the pad
module _ (pic : List ℕ) (w ht pad : ℕ) where
  -- the picture stands inside a buffer
  unfoldable pub Holds : (stride : ℕ) (buf : List ℕ) → Type 0
  Holds stride buf = (x y : ℕ) → x < w → y < ht → interior buf stride pad x y ≡ sample pic w x y

  -- MARGINS: buf is a buffer in which the picture stood, with its margins filled
  pub record Margins (stride : ℕ) (buf : List ℕ) : Type 0 where
    pub was : List ℕ
    pub held : Holds stride was
    pub filled : buf ≡ expanded was stride pad w ht

  -- DERIVED PLANES: f, h, v and c are the picture padded and its half samples, drawn into buffers that held anything
  pub record Derived (f h v c : List ℕ) : Type 0 where
    pub f_was : List ℕ
    pub h_was : List ℕ
    pub v_was : List ℕ
    pub c_was : List ℕ
    pub full : f ≡ drawn f_was (wide w pad) (wide ht pad) (padded_at pic w ht pad)
    pub across : h ≡ drawn h_was (wide w pad) (wide ht pad) (across_at (padded_plane pic w ht pad) (wide w pad) (wide ht pad))
    pub down : v ≡ drawn v_was (wide w pad) (wide ht pad) (down_at (padded_plane pic w ht pad) (wide w pad) (wide ht pad))
    pub centre : c ≡ drawn c_was (wide w pad) (wide ht pad) (centre_at (padded_plane pic w ht pad) (wide w pad) (wide ht pad))
