-- Demand 3's premise follows from the contracts: a buffer that `expand_plane` left and planes that `build_hpel_planes` left are as made. Assumes nothing.
use mathlib.Core.List.{List}
use Prim.Native.Nat.{ℕ}
use denote.Ref.{Bor, MutBor}
use contract.Lifetimes.{Lfts}
use Rattle.std.specs.Prelude.{Ok}
use Rattle.terms.specs.declared.plane.Geometry.{Geometry}
use Rattle.margins.proofs.expand_plane.Reads as expand
use Rattle.planes.proofs.build_hpel_planes.Reads as build
use Rattle.promises.specs.Made.{Holds, Margins, Derived}

pub margins_made : (pic : List ℕ) (κs : Lfts 1) (buf : MutBor (List ℕ)) (g : Geometry) (s : _)
    → Holds pic g.pw g.ph g.pad g.stride buf.now → expand.Post κs (buf, (g, tt)) (Ok tt) s
    → Margins pic g.pw g.ph g.pad g.stride s.0.now
margins_made pic κs buf g s e a = record { was = buf.now; held = e; filled = a.1 }

pub derived_made : (κs : Lfts 5) (pic : Bor (List ℕ)) (f h v c : MutBor (List ℕ)) (w ht pad : ℕ) (s : _)
    → build.Post κs (record { samples = pic; w = w; h = ht }, (pad, (f, (h, (v, (c, tt)))))) (Ok tt) s
    → Derived pic.now w ht pad s.1.1.0.now s.1.1.1.0.now s.1.1.1.1.0.now s.1.1.1.1.1.0.now
derived_made κs pic f h v c w ht pad s a =
    record { f_was = f.now; h_was = h.now; v_was = v.now; c_was = c.now; full = a.1; across = a.2; down = a.3; centre = a.4 }
