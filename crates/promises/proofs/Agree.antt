-- DEMAND 3: all luma routes that answer for a block, from one picture and planes made from it, give the same bytes, the standard's, and each byte is bounded by the window of that picture. Assumes nothing.
use mathlib.Core.Path.{◌≡◌, sym, ap, ◌∙◌}
use mathlib.Core.List.{List}
use Prim.Native.Nat.{ℕ, ◌*◌}
use lib.IntN.{ℤ}
use lib.ListN.{take, drop}
use lib.Seq.{take_at}
use denote.Ref.{Bor, MutBor}
use contract.Lifetimes.{Lfts}
use Rattle.grid.specs.Block.{block, drawn}
use Rattle.grid.proofs.Fill.{block_length}
use Rattle.luma.specs.Luma.{predicted_luma}
use Rattle.luma.proofs.mc_luma.Reads as plain
use Rattle.padded.proofs.mc_luma_padded.Reads as padded
use Rattle.padded.proofs.mc_luma_padded_slices.Reads as slices
use Rattle.padded.proofs.Only.{Drawn, Lent, out}
use Rattle.std.specs.Prelude.{Ok}
use Rattle.lent.specs.Lent.{Predicted}
use Rattle.hpel.proofs.Only.{Written}
use Rattle.hpel.proofs.Only as calls
use Rattle.hpel.proofs.hpel_block.Reads as hpel
use Rattle.promises.specs.Made.{Margins, Derived}
use Rattle.promises.proofs.BoundedCalls.{drawn_bounded, BoundedBlock, plain_window}
use Rattle.promises.proofs.Routes.{asked_for, Draws, mc_luma_draws, mc_luma_padded_draws, mc_luma_padded_slices_draws, mc_luma_padded_pre_draws, hpel_block_draws}

-- the picture lent to the plain route, the block and its vector
module _ (pic : Bor (List ℕ)) (w ht x0 y0 bw bh : ℕ) (mvx mvy : ℤ) where
  abbrev margined : (pad stride : ℕ) (buf : Bor (List ℕ)) (o : MutBor (List ℕ)) → Drawn
  margined pad stride buf o = (buf, (record { stride = stride; pad = pad; pw = w; ph = ht }, (asked_for x0 y0 bw bh mvx mvy, (o, tt))))

  -- A ROUTE ANSWERED 0 for the block and left this output: the plain route; the padded one, with its own scratch, with lent slices
  -- and with a lent record, on margins made from the picture; the hpel one, on planes derived from the picture
  pub data Answered : List ℕ → Type 0 where
    plainly : (κs : Lfts 2) (o : MutBor (List ℕ)) (s : _) → plain.Post κs (record { samples = pic; w = w; h = ht }, (asked_for x0 y0 bw bh mvx mvy, (o, tt))) (Ok tt) s
        → Answered s.1.1.0.now
    by_margins : (pad stride : ℕ) (buf : Bor (List ℕ)) (o : MutBor (List ℕ)) → Margins pic.now w ht pad stride buf.now
        → (κs : Lfts 2) (s : Drawn) → padded.Post κs (margined pad stride buf o) (Ok tt) s → Answered (out s)
    by_slices : (pad stride : ℕ) (buf : Bor (List ℕ)) (o : MutBor (List ℕ)) → Margins pic.now w ht pad stride buf.now
        → (κs : Lfts 5) (tile a b : MutBor (List ℕ)) (s : Lent) → slices.Post κs (tile, (a, (b, margined pad stride buf o))) (Ok tt) s → Answered (out s.1.1.1)
    by_record : (pad stride : ℕ) (buf : List ℕ) → Margins pic.now w ht pad stride buf
        → (t a b o t' a' b' o' : List ℕ) → Predicted t a b buf stride pad w ht x0 y0 bw bh mvx mvy o t' a' b' o' 0 → Answered o'
    by_planes : (pad : ℕ) (f h v c : Bor (List ℕ)) → Derived pic.now w ht pad f.now h.now v.now c.now
        → (κs : Lfts 2) (o : MutBor (List ℕ)) (s : Written) → hpel.Post κs (f, (h, (v, (c, (w, (ht, (pad, (asked_for x0 y0 bw bh mvx mvy, (o, tt))))))))) (Ok tt) s
        → Answered (calls.out s)

  -- the output is one in which the standard's block was drawn
  pub drew : (l : List ℕ) → Answered l → (old : List ℕ) × Draws x0 y0 bw bh mvx mvy pic.now w ht old l
  drew l (plainly κs o s a) = (o.now, mc_luma_draws x0 y0 bw bh mvx mvy κs pic o w ht s a)
  drew l (by_margins pad stride buf o m κs s a) = (o.now, mc_luma_padded_draws x0 y0 bw bh mvx mvy pic.now _ buf o m κs s a)
  drew l (by_slices pad stride buf o m κs tile ga gb s a) = (o.now, mc_luma_padded_slices_draws x0 y0 bw bh mvx mvy pic.now _ buf o m κs tile ga gb s a)
  drew l (by_record pad stride buf m t a b o t' a' b' o' p) = (o, mc_luma_padded_pre_draws x0 y0 bw bh mvx mvy pic.now t a b buf stride pad w ht o t' a' b' o' m p)
  drew l (by_planes pad f h v c d κs o s a) = (o.now, hpel_block_draws x0 y0 bw bh mvx mvy pic.now f h v c w ht pad d κs o s a)

  -- THE STANDARD'S: the first bytes of the output are the block of clause 8.4.2.2
  pub standard : (l : List ℕ) → Answered l → take (bw * bh) l ≡ block bw bh (predicted_luma pic.now w ht x0 y0 mvx mvy)
  unfolding drawn
  standard l a = let d = drew l a in ap (take (bw * bh)) d.1 ∙ take_at (block bw bh _) (drop (bw * bh) d.0) (bw * bh) (block_length bw bh _)

  -- THE THEOREM: any two routes that answer give the same bytes
  pub routes_agree : (l m : List ℕ) → Answered l → Answered m → take (bw * bh) l ≡ take (bw * bh) m
  routes_agree l m a b = standard l a ∙ sym (standard m b)

  -- THE BOUND: and each byte is near the mean of its two neighbours in the picture
  pub routes_bounded : (l : List ℕ) → Answered l → BoundedBlock x0 y0 bw bh mvx mvy (plain_window x0 y0 bw bh mvx mvy pic.now w ht) l
  unfolding predicted_luma
  routes_bounded l a = let d = drew l a in drawn_bounded 255 _ _ bw bh _ d.0 l d.1
