-- Nothing else satisfies a public contract, call by call: the theorem is named by the crate and the call. `Post` is the contract as Rattle reads it from the source.
-- tools/determined compares this file with the public functions of every crate of the counter and of `inter`, whose clauses the exports repeat. Assumes nothing.
use mathlib.Core.Path.{◌≡◌, refl, sym, ◌∙◌}
use mathlib.Core.List.{List, [], ◌∷◌}
use denote.Ref.{Bor}
use contract.Lifetimes.{Lfts}
use Prim.Native.Nat.{ℕ}
use lib.IntN.{ℤ}
use lib.ListN.{length}
use Rattle.grid.specs.Block.{drawn}
use Rattle.place.specs.Outcome.{after}
use Rattle.lent.specs.Lent.{Predicted}
use Rattle.terms.proofs.Number.{one_answer}
use Rattle.vectors.proofs.Only.{one_mv_answer}
use Rattle.edge.proofs.Count.{one_edges}
use Rattle.hpel.proofs.Answer.{one_at, one_pair}
use Rattle.served.specs.Served.{block_refusal}
use Rattle.hpel.specs.Lookup.{ref_at, qpel_at}
use Rattle.hpel.specs.Reading.{contents, ref_tail, qpel_tails, hpel_sample}
use Rattle.bundle.specs.declared.HpelPlanes.{HpelPlanes}
use Rattle.promises.specs.Determined.{Determined, Shown}
use Rattle.vectors.proofs.median3.Reads as vectors-median3-reads
use Rattle.vectors.proofs.predict_mv.Reads as vectors-predict-mv-reads
use Rattle.vectors.proofs.predict_partition_mv.Reads as vectors-predict-partition-mv-reads
use Rattle.vectors.proofs.inter_partitions.Reads as vectors-inter-partitions-reads
use Rattle.luma.proofs.mc_luma.Reads as luma-mc-luma-reads
use Rattle.luma.proofs.avg_row_into.Reads as luma-avg-row-into-reads
use Rattle.chroma.proofs.mc_chroma.Reads as chroma-mc-chroma-reads
use Rattle.edge.proofs.edge_count.Reads as edge-edge-count-reads
use Rattle.margins.proofs.expand_plane.Reads as margins-expand-plane-reads
use Rattle.padded.proofs.mc_luma_padded.Reads as padded-mc-luma-padded-reads
use Rattle.padded.proofs.mc_luma_padded_slices.Reads as padded-mc-luma-padded-slices-reads
use Rattle.padded.proofs.mc_chroma_padded.Reads as padded-mc-chroma-padded-reads
use Rattle.padded.proofs.mc_chroma_padded_pair.Reads as padded-mc-chroma-padded-pair-reads
use Rattle.planes.proofs.pad_plane.Reads as planes-pad-plane-reads
use Rattle.planes.proofs.build_hpel_planes.Reads as planes-build-hpel-planes-reads
use Rattle.hpel.proofs.hpel_ref_at.Reads as hpel-hpel-ref-at-reads
use Rattle.hpel.proofs.hpel_qpel_refs_at.Reads as hpel-hpel-qpel-refs-at-reads
use Rattle.hpel.proofs.hpel_ref.Reads as hpel-hpel-ref-reads
use Rattle.hpel.proofs.hpel_qpel_refs.Reads as hpel-hpel-qpel-refs-reads
use Rattle.hpel.proofs.hpel_block.Reads as hpel-hpel-block-reads
use Rattle.lent.proofs.luma_arrays.Reads as lent-luma-arrays-reads
use Rattle.inter.proofs.inter_mc_luma.Reads as inter-inter-mc-luma-reads
use Rattle.inter.proofs.inter_mc_chroma.Reads as inter-inter-mc-chroma-reads
use Rattle.inter.proofs.inter_expand_plane.Reads as inter-inter-expand-plane-reads
use Rattle.inter.proofs.inter_mc_luma_padded.Reads as inter-inter-mc-luma-padded-reads
use Rattle.inter.proofs.inter_mc_chroma_padded.Reads as inter-inter-mc-chroma-padded-reads
use Rattle.inter.proofs.inter_mc_chroma_padded_pair.Reads as inter-inter-mc-chroma-padded-pair-reads
use Rattle.inter.proofs.inter_pad_plane.Reads as inter-inter-pad-plane-reads
use Rattle.inter.proofs.inter_build_hpel_planes.Reads as inter-inter-build-hpel-planes-reads
use Rattle.inter.proofs.inter_hpel_ref.Reads as inter-inter-hpel-ref-reads
use Rattle.inter.proofs.inter_hpel_qpel_refs.Reads as inter-inter-hpel-qpel-refs-reads
use Rattle.inter.proofs.inter_hpel_block.Reads as inter-inter-hpel-block-reads
use Rattle.inter.proofs.inter_avg_row_into.Reads as inter-inter-avg-row-into-reads
use Rattle.inter.proofs.inter_edge_count.Reads as inter-inter-edge-count-reads
use Rattle.inter.proofs.inter_median3.Reads as inter-inter-median3-reads
use Rattle.inter.proofs.inter_predict_mv.Reads as inter-inter-predict-mv-reads
use Rattle.inter.proofs.inter_predict_partition_mv.Reads as inter-inter-predict-partition-mv-reads
use Rattle.inter.proofs.inter_inter_partitions.Reads as inter-inter-inter-partitions-reads

-- ---- Vectors and partitions

pub vectors_median3 : Determined (vectors-median3-reads.Post tt) (λ s. [])
vectors_median3 x s t p q a b = (a ∙ sym b, refl)

pub vectors_predict_mv : Determined (vectors-predict-mv-reads.Post tt) (λ s. [])
vectors_predict_mv x s t p q a b = (one_mv_answer p q (a ∙ sym b), refl)

pub vectors_predict_partition_mv : Determined (vectors-predict-partition-mv-reads.Post tt) (λ s. [])
vectors_predict_partition_mv x s t p q a b = (one_mv_answer p q (a ∙ sym b), refl)

pub vectors_inter_partitions : Determined (vectors-inter-partitions-reads.Post tt) (λ s. [])
vectors_inter_partitions x s t p q a b = (a ∙ sym b, refl)

-- ---- The plain luma route, and the average of two rows

pub luma_mc_luma : (κs : Lfts 2) → Determined (luma-mc-luma-reads.Post κs) (λ s. s.1.1.0.now ∷ [])
luma_mc_luma κs x s t p q a b = (one_answer p q (a.0 ∙ sym b.0), cc)

pub luma_avg_row_into : (κs : Lfts 3) → Determined (luma-avg-row-into-reads.Post κs) (λ s. s.1.1.1.0.now ∷ [])
luma_avg_row_into κs x s t p q a b = (one_answer p q (a.0 ∙ sym b.0), cc)

-- ---- The plain chroma route

pub chroma_mc_chroma : (κs : Lfts 2) → Determined (chroma-mc-chroma-reads.Post κs) (λ s. s.1.1.0.now ∷ [])
chroma_mc_chroma κs x s t p q a b = (one_answer p q (a.0 ∙ sym b.0), cc)

-- ---- The edge count

pub edge_edge_count : Determined (edge-edge-count-reads.Post tt) (λ s. [])
edge_edge_count x s t p q a b = (one_edges p q (a ∙ sym b), refl)

-- ---- Margins

pub margins_expand_plane : (κs : Lfts 1) → Determined (margins-expand-plane-reads.Post κs) (λ s. s.0.now ∷ [])
margins_expand_plane κs x s t p q a b = (one_answer p q (a.0 ∙ sym b.0), cc)

-- ---- Planes with margins; the scratch of the slice form is free after 0 (`scratch_kept` in crates/padded/proofs/Only.antt)

pub padded_mc_luma_padded : (κs : Lfts 2) → Determined (padded-mc-luma-padded-reads.Post κs) (λ s. s.1.1.1.0.now ∷ [])
padded_mc_luma_padded κs x s t p q a b = (one_answer p q (a.0 ∙ sym b.0), cc)

pub padded_mc_luma_padded_slices : (κs : Lfts 5) → Determined (padded-mc-luma-padded-slices-reads.Post κs) (λ s. s.1.1.1.1.1.1.0.now ∷ [])
padded_mc_luma_padded_slices κs x s t p q a b = (one_answer p q (a.0 ∙ sym b.0), cc)

pub padded_mc_chroma_padded : (κs : Lfts 2) → Determined (padded-mc-chroma-padded-reads.Post κs) (λ s. s.1.1.1.0.now ∷ [])
padded_mc_chroma_padded κs x s t p q a b = (one_answer p q (a.0 ∙ sym b.0), cc)

pub padded_mc_chroma_padded_pair : (κs : Lfts 4) → Determined (padded-mc-chroma-padded-pair-reads.Post κs) (λ s. s.1.1.1.1.0.now ∷ s.1.1.1.1.1.0.now ∷ [])
padded_mc_chroma_padded_pair κs x s t p q a b = (one_answer p q (a.0 ∙ sym b.0), cc)

-- ---- Half-sample planes: made

pub planes_pad_plane : (κs : Lfts 2) → Determined (planes-pad-plane-reads.Post κs) (λ s. s.1.1.0.now ∷ [])
planes_pad_plane κs x s t p q a b = (one_answer p q (a.0 ∙ sym b.0), cc)

pub planes_build_hpel_planes : (κs : Lfts 5) → Determined (planes-build-hpel-planes-reads.Post κs) (λ s. s.1.1.0.now ∷ s.1.1.1.0.now ∷ s.1.1.1.1.0.now ∷ s.1.1.1.1.1.0.now ∷ [])
planes_build_hpel_planes κs x s t p q a b = (one_answer p q (a.0 ∙ sym b.0), cc)

-- ---- Half-sample planes: used

pub hpel_hpel_ref_at : (κs : Lfts 1) → Determined (hpel-hpel-ref-at-reads.Post κs) (λ s. [])
hpel_hpel_ref_at κs x s t p q a b = (one_at p q (a ∙ sym b), refl)

pub hpel_hpel_qpel_refs_at : (κs : Lfts 1) → Determined (hpel-hpel-qpel-refs-at-reads.Post κs) (λ s. [])
hpel_hpel_qpel_refs_at κs x s t p q a b = (one_pair p q (a ∙ sym b), refl)

pub hpel_hpel_ref : (κs : Lfts 1) → Shown (hpel-hpel-ref-reads.Post κs) (λ x. x.now)
hpel_hpel_ref κs x s t p q a b = a ∙ sym b

pub hpel_hpel_qpel_refs : (κs : Lfts 1) → Shown (hpel-hpel-qpel-refs-reads.Post κs) contents
hpel_hpel_qpel_refs κs x s t p q a b = a ∙ sym b

pub hpel_hpel_block : (κs : Lfts 2) → Determined (hpel-hpel-block-reads.Post κs) (λ s. s.1.1.1.1.1.1.1.1.0.now ∷ [])
hpel_hpel_block κs x s t p q a b = (one_answer p q (a.0 ∙ sym b.0), cc)

-- ---- The lent scratch, free after 0 (`scratch_kept` in crates/lent/proofs/Only.antt)

pub lent_luma_arrays : (κs : Lfts 5) → Determined (lent-luma-arrays-reads.Post κs) (λ s. s.1.1.1.1.1.1.0.now ∷ [])
lent_luma_arrays κs x s t p q a b = (one_answer p q (a.answer ∙ sym b.answer), cc)

-- ---- The calls as C has them

pub inter_inter_mc_luma : (κs : Lfts 2) → Determined (inter-inter-mc-luma-reads.Post κs) (λ s. s.1.1.1.1.1.1.1.1.1.0.now ∷ [])
inter_inter_mc_luma κs x s t p q a b = (cc, cc)

pub inter_inter_mc_chroma : (κs : Lfts 2) → Determined (inter-inter-mc-chroma-reads.Post κs) (λ s. s.1.1.1.1.1.1.1.1.1.0.now ∷ [])
inter_inter_mc_chroma κs x s t p q a b = (cc, cc)

pub inter_inter_expand_plane : (κs : Lfts 1) → Determined (inter-inter-expand-plane-reads.Post κs) (λ s. s.0.now ∷ [])
inter_inter_expand_plane κs x s t p q a b = (cc, cc)

pub inter_inter_mc_luma_padded : (κs : Lfts 2) → Determined (inter-inter-mc-luma-padded-reads.Post κs) (λ s. s.1.1.1.1.1.1.1.1.1.1.1.0.now ∷ [])
inter_inter_mc_luma_padded κs x s t p q a b = (cc, cc)

pub inter_inter_mc_chroma_padded : (κs : Lfts 2) → Determined (inter-inter-mc-chroma-padded-reads.Post κs) (λ s. s.1.1.1.1.1.1.1.1.1.1.1.0.now ∷ [])
inter_inter_mc_chroma_padded κs x s t p q a b = (cc, cc)

pub inter_inter_mc_chroma_padded_pair : (κs : Lfts 4) → Determined (inter-inter-mc-chroma-padded-pair-reads.Post κs) (λ s. s.1.1.1.1.1.1.1.1.1.1.1.1.0.now ∷ s.1.1.1.1.1.1.1.1.1.1.1.1.1.0.now ∷ [])
inter_inter_mc_chroma_padded_pair κs x s t p q a b = (cc, cc)

pub inter_inter_pad_plane : (κs : Lfts 2) → Determined (inter-inter-pad-plane-reads.Post κs) (λ s. s.1.1.1.1.0.now ∷ [])
inter_inter_pad_plane κs x s t p q a b = (cc, cc)

pub inter_inter_build_hpel_planes : (κs : Lfts 5) → Determined (inter-inter-build-hpel-planes-reads.Post κs) (λ s. s.1.1.1.1.0.now ∷ s.1.1.1.1.1.0.now ∷ s.1.1.1.1.1.1.0.now ∷ s.1.1.1.1.1.1.1.0.now ∷ [])
inter_inter_build_hpel_planes κs x s t p q a b = (cc, cc)

pub inter_inter_hpel_ref : (κs : Lfts 1) → Determined (inter-inter-hpel-ref-reads.Post κs) (λ s. [])
inter_inter_hpel_ref κs x s t p q a b = (a ∙ sym b, refl)

pub inter_inter_hpel_qpel_refs : (κs : Lfts 1) → Determined (inter-inter-hpel-qpel-refs-reads.Post κs) (λ s. [])
inter_inter_hpel_qpel_refs κs x s t p q a b = (a ∙ sym b, refl)

pub inter_inter_hpel_block : (κs : Lfts 2) → Determined (inter-inter-hpel-block-reads.Post κs) (λ s. s.1.1.1.1.1.1.1.1.1.1.1.1.1.0.now ∷ [])
inter_inter_hpel_block κs x s t p q a b = (cc, cc)

pub inter_inter_avg_row_into : (κs : Lfts 3) → Determined (inter-inter-avg-row-into-reads.Post κs) (λ s. s.1.1.1.0.now ∷ [])
inter_inter_avg_row_into κs x s t p q a b = (cc, cc)

pub inter_inter_edge_count : Determined (inter-inter-edge-count-reads.Post tt) (λ s. [])
inter_inter_edge_count x s t p q a b = (a ∙ sym b, refl)

pub inter_inter_median3 : Determined (inter-inter-median3-reads.Post tt) (λ s. [])
inter_inter_median3 x s t p q a b = (a ∙ sym b, refl)

pub inter_inter_predict_mv : Determined (inter-inter-predict-mv-reads.Post tt) (λ s. [])
inter_inter_predict_mv x s t p q a b = (a ∙ sym b, refl)

pub inter_inter_predict_partition_mv : Determined (inter-inter-predict-partition-mv-reads.Post tt) (λ s. [])
inter_inter_predict_partition_mv x s t p q a b = (a ∙ sym b, refl)

pub inter_inter_inter_partitions : Determined (inter-inter-inter-partitions-reads.Post tt) (λ s. [])
inter_inter_inter_partitions x s t p q a b = (a ∙ sym b, refl)

-- ---- Calls over a lent record: the whole contract is a record or an equation, which stands here itself; on the readings in proofs/Only.antt of lent, bundle and inter

module _ (padded : List ℕ) (stride pad pw ph x0 y0 bw bh : ℕ) (mvx mvy : ℤ) where
  -- tile, a, b and out
  abbrev Scratch : Type 0
  Scratch = List ℕ × (List ℕ × (List ℕ × (List ℕ × Unit {0})))

  abbrev with_scratch : Scratch → ℕ → Scratch → Type 0
  with_scratch x r s =
      Predicted x.0 x.1.0 x.1.1.0 padded stride pad pw ph x0 y0 bw bh mvx mvy x.1.1.1.0 s.0 s.1.0 s.1.1.0 s.1.1.1.0 r

  pub lent_mc_luma_padded_pre : Determined with_scratch (λ s. s.1.1.1.0 ∷ [])
  lent_mc_luma_padded_pre x s t p q a b = (cc, cc)

  pub inter_inter_mc_luma_padded_pre : Determined with_scratch (λ s. s.1.1.1.0 ∷ [])
  inter_inter_mc_luma_padded_pre = lent_mc_luma_padded_pre

module _ (d : HpelPlanes) (x0 y0 bw bh : ℕ) (mvx mvy : ℤ) where
  -- a call over the planes' lengths, and one over what they hold
  abbrev by_lengths : {A : Type 0} → (ℕ → ℕ → ℕ → ℕ → ℕ → ℕ → ℕ → ℕ → ℕ → ℕ → ℕ → ℤ → ℤ → A) → A
  by_lengths g = g (length d.f.now) (length d.h.now) (length d.v.now) (length d.c.now) d.cw d.ch d.pad x0 y0 bw bh mvx mvy

  abbrev by_contents : {A : Type 0} → (List ℕ → List ℕ → List ℕ → List ℕ → ℕ → ℕ → ℕ → ℕ → ℕ → ℕ → ℕ → ℤ → ℤ → A) → A
  by_contents g = g d.f.now d.h.now d.v.now d.c.now d.cw d.ch d.pad x0 y0 bw bh mvx mvy

  pub bundle_hpel_ref_at : Determined {X = Unit {0}} (λ _ r _. r ≡ by_lengths ref_at) (λ _. [])
  bundle_hpel_ref_at x s t p q a b = (a ∙ sym b, refl)

  pub bundle_hpel_qpel_refs_at : Determined {X = Unit {0}} (λ _ r _. r ≡ by_lengths qpel_at) (λ _. [])
  bundle_hpel_qpel_refs_at x s t p q a b = (a ∙ sym b, refl)

  pub bundle_hpel_ref : Shown {X = Unit {0}} {R = Bor (List ℕ)} (λ _ r _. r.now ≡ by_contents ref_tail) (λ x. x.now)
  bundle_hpel_ref x s t p q a b = a ∙ sym b

  pub bundle_hpel_qpel_refs : Shown {X = Unit {0}} (λ _ r _. contents r ≡ by_contents qpel_tails) contents
  bundle_hpel_qpel_refs x s t p q a b = a ∙ sym b

  pub bundle_hpel_block : Determined {X = List ℕ}
      (λ out r out'. (r ≡ by_lengths block_refusal (length out))
      × (out' ≡ after r out (drawn out bw bh (hpel_sample d.f.now d.h.now d.v.now d.c.now d.cw d.pad x0 y0 mvx mvy))))
      (λ s. s ∷ [])
  bundle_hpel_block x s t p q a b = (cc, cc)
