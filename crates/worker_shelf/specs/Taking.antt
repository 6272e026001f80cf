-- Which lines a shelf takes, and where its pass may go, as `store_serve` says it. So who runs workers on shelves names this crate alone.
pub use Rattle.store_serve.specs.Serving.{MayAsk, Takes, offer_of}
pub use Rattle.store_serve.specs.Tabs.{IsOffered, MayGo}
