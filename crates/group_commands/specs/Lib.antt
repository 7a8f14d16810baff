pub mod GroupaddGid
